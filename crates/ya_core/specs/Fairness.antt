-- Infinite schedules, their runs, and fairness.
use Rattle.std.specs.Prelude.{◌≡◌, ◌≢◌, ℕ, ◌+◌, ◌^◌, ◌<◌, ◌≤◌, Bool, true, false, Option, Some, None}
use Rattle.ya_core.specs.declared.process.Process.{Process}
use Rattle.ya_core.specs.declared.process.Process.TheVariants.{Idle, Entering, Leaving}
use Rattle.ya_core.specs.Steps.{State, StepsTo}

-- a picked place steps; if no place is picked, the state stays
abbrev pub PickLeadsTo : ℕ → Option ℕ → State → State → Type 0
PickLeadsTo levels (Some place) old new = StepsTo levels place old new
PickLeadsTo levels None old new = new ≡ old

-- a schedule picks a place, or none, for each of the times 0, 1, 2, ..; its run has a state at each time: `first` at
-- time 0. Each later state follows from the one before by the pick of that time
pub record IsRunOfSchedule (levels : ℕ) (schedule : ℕ → Option ℕ) (first : State) (states : ℕ → State) : Type 0 where
  pub start : states 0 ≡ first
  pub picks : (time : ℕ) → PickLeadsTo levels (schedule time) (states time) (states (time + 1))

-- `So` holds at this time or a later one
abbrev pub Eventually : ℕ → (ℕ → Type 0) → Type 0
Eventually time So = (later : ℕ) × (time ≤ later) × So later

-- the schedule is fair: whenever a place isn't idle, it is picked then or later
abbrev pub IsFair : (ℕ → Option ℕ) → (ℕ → State) → Type 0
IsFair schedule states =
    (place time : ℕ) → (states time).processes place ≢ Idle → Eventually time (λ later. schedule later ≡ Some place)

-- each place of the tree has its turn again and again
abbrev pub PicksEachAgain : ℕ → (ℕ → ℕ) → Type 0
PicksEachAgain levels turns =
    (place time : ℕ) → place < 2 ^ levels → Eventually time (λ later. turns later ≡ place)

-- the process is on its way in
abbrev pub is_on_way_in : Process → Bool
is_on_way_in (Entering level point) = true
is_on_way_in _ = false

-- the process is on its way out
abbrev pub is_on_way_out : Process → Bool
is_on_way_out (Leaving level point) = true
is_on_way_out _ = false
