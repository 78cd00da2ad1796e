use Rattle.std.proofs.Common.{◌≤◌, length}
use Rattle.rt_rib.proofs.ahead.read_first_offers.Given as goal

-- at most all answers remain to be read
abbrev pub invariant-loop-remaining : goal.invariant-loop-remaining
invariant-loop-remaining g l = l.remaining ≤ length l.answers

abbrev pub decreases-loop-remaining : goal.decreases-loop-remaining
decreases-loop-remaining g l = l.remaining
