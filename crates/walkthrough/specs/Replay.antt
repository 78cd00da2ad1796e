-- The result of a schedule.
use Rattle.std.specs.Prelude.{◌≡◌, ℕ, Bool, true, false, List}
use Rattle.std.specs.List.{list_any}
use Rattle.ya_core.specs.declared.step.Mark.{Mark}
use Rattle.ya_core.specs.declared.step.Mark.TheVariants.{Plain, Inside, Out}
use Rattle.ya_core.specs.declared.step.Step.{Step}
use Rattle.ya_core.specs.Steps.{opening}
use Rattle.ya_core.specs.Machines.{Replays}

-- true if a step with this mark won the root
abbrev pub marks_inside : Mark → Bool
marks_inside Inside = true
marks_inside Plain = false
marks_inside Out = false

-- true if the step won the root
abbrev pub wins : Step → Bool
wins step = marks_inside step.mark

-- these places take these steps, and `inside` says whether one of them won the root
pub record ComesInside (levels : ℕ) (picks : List ℕ) (inside : Bool) : Type 0 where
  pub steps : List Step
  pub taken : Replays levels opening picks steps
  pub answer : inside ≡ list_any wins steps
