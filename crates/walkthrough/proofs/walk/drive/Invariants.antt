use Rattle.std.proofs.Common.{◌≡◌, length}
use Rattle.walkthrough.specs.Walk.{Leads}
use Rattle.walkthrough.proofs.walk.drive.Given as goal

abbrev pub invariant-loop-access : goal.invariant-loop-access
invariant-loop-access l = record {
  leads : Leads l.fn.walker l.walker;
  size : length l.words ≡ length l.initial.words;
}
