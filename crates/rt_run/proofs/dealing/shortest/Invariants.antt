use Rattle.std.proofs.Common.{◌<◌, length}
use Rattle.rt_run.proofs.dealing.shortest.Given as goal

-- the place is one of the list
abbrev pub invariant-loop-other : goal.invariant-loop-other
invariant-loop-other l = l.place < length l.lengths
