-- The invariant of a machine, and the contract of its step.
use Rattle.std.specs.Prelude.{◌≡◌, ℕ, ◌^◌, ◌≤◌, List, length}
use Rattle.ya_core.specs.declared.process.Process.{Process}
use Rattle.ya_core.specs.declared.step.Step.{Step}
use Rattle.ya_core.specs.ArbitrationTree.{count_of_words}
use Rattle.ya_core.specs.Steps.{StepsTo}
use Rattle.ya_core.specs.Soundness.{IsSoundState}
use Rattle.ya_core.specs.Machines.{Rows, state_of, step_of}

-- the rows of a machine
abbrev pub rows : ℕ → List ℕ → List Process → Rows
rows levels words processes = record { levels = levels; words = words; processes = processes }

-- the invariant of a machine
pub record IsMachine (m : Rows) : Type 0 where
  pub least : 1 ≤ m.levels
  pub words : length m.words ≡ count_of_words m.levels
  pub processes : length m.processes ≡ 2 ^ m.levels
  pub sound : IsSoundState m.levels (state_of m)

-- the place takes its step; the invariant still holds, and `step_told` is the record of the step
pub record TakesStep (place : ℕ) (old new : Rows) (step_told : Step) : Type 0 where
  pub machine : IsMachine new
  pub step : StepsTo old.levels place (state_of old) (state_of new)
  pub told : step_told ≡ step_of old.levels place (state_of old)
