use Rattle.std.proofs.Common.{◌≤◌}
use Rattle.rt_run.proofs.dealing.used_texts.Given as goal

-- not more texts were counted than passed
abbrev pub invariant-loop-index : goal.invariant-loop-index
invariant-loop-index l = l.used ≤ l.index
