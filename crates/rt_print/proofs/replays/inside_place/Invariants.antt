use Rattle.std.proofs.Common.{◌≡◌, take}
use Rattle.rt_print.specs.inside.Parts.{inside_after}
use Rattle.rt_print.proofs.replays.inside_place.Given as goal

abbrev pub invariant-loop-step : goal.invariant-loop-step
invariant-loop-step l = l.inside ≡ inside_after (take l.step-index l.steps)
