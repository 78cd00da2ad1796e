-- Progress: some place that takes part can go on; some finite schedule leads to a state with a property; the wins of
-- rivals at a node.
use Rattle.std.specs.Prelude.{◌≡◌, ◌≢◌, ℕ, ◌+◌, ◌==◌, Bool, true, false, not, ◌&&◌, if◌then◌else◌, List, [], ◌∷◌}
use Rattle.ya_core.specs.declared.process.EntryPoint.TheVariants.{E2}
use Rattle.ya_core.specs.declared.process.Process.{Process}
use Rattle.ya_core.specs.declared.process.Process.TheVariants.{Idle, Entering}
use Rattle.ya_core.specs.ArbitrationTree.{node_of, side_of}
use Rattle.ya_core.specs.Steps.{State, StepsTo, LeadTo}
use Rattle.ya_core.specs.Worlds.{World, WorldSteps}

-- some place that takes part has a step that changes its process
pub record SomeoneGoesOn (levels : ℕ) (s : State) : Type 0 where
  pub place : ℕ
  pub busy : s.processes place ≢ Idle
  pub after : State
  pub step : StepsTo levels place s after
  pub goes_on : after.processes place ≢ s.processes place

-- some finite schedule leads from the state to a state with the property `So`
abbrev pub CanLeadTo : ℕ → State → (State → Type 0) → Type 0
CanLeadTo levels s So = (places : List ℕ) × (after : State) × LeadTo levels s places after × So after

-- some place that takes part has a step of the world that changes its process
pub record SomeoneGoesOnIn {X : Type 0} (levels : ℕ) (world : World X) : Type 0 where
  pub place : ℕ
  pub busy : world.state.processes place ≢ Idle
  pub after : World X
  pub step : WorldSteps levels place world after
  pub goes_on : after.state.processes place ≢ world.state.processes place

-- the effect of a step at one level: its place announces itself at its node (e2), wins the node, or does neither
pub data EventKind : Type 0 where
  Announces : EventKind
  Wins : EventKind
  Neither : EventKind

-- the process is on its way in at the level
abbrev pub is_entering : ℕ → Process → Bool
is_entering level (Entering stands point) = level == stands
is_entering level _ = false

-- the process is to announce itself at the level
abbrev pub is_to_announce : ℕ → Process → Bool
is_to_announce level (Entering stands E2) = level == stands
is_to_announce level _ = false

-- the deed of a step from one process to the next; a process that leaves the way in of a level has won the level
abbrev pub event_kind : ℕ → Process → Process → EventKind
event_kind level before after =
    if is_to_announce level before then Announces
    else (if is_entering level before && not (is_entering level after) then Wins else Neither)

-- a step in one level's view: its place and its deed there
pub record LevelStep : Type 0 where
  pub place : ℕ
  pub deed : EventKind

-- the place announces itself
abbrev pub announces : ℕ → LevelStep
announces place = record { place = place; deed = Announces }

-- places step one after another from this state, and this list is the level's view of these steps
abbrev pub LevelSees : ℕ → ℕ → State → List LevelStep → Type 0
LevelSees levels level s [] = Unit {0}
LevelSees levels level s (step ∷ steps) =
    (after : State) × StepsTo levels step.place s after
    × (step.deed ≡ event_kind level (s.processes step.place) (after.processes step.place))
    × LevelSees levels level after steps

-- none of the steps wins the level for the place
abbrev pub HasNotWon : ℕ → List LevelStep → Type 0
HasNotWon place [] = Unit {0}
HasNotWon place (step ∷ steps) = (step.place ≡ place → step.deed ≢ Wins) × HasNotWon place steps

-- the other place competes with the place at the level
abbrev pub is_rival : ℕ → ℕ → ℕ → Bool
is_rival level place other =
    (node_of level other == node_of level place) && not (side_of level other == side_of level place)

-- the deed wins the node
abbrev pub is_win : EventKind → Bool
is_win Wins = true
is_win _ = false

-- the number of times that rivals of the place win the level
abbrev pub times_overtaken : ℕ → ℕ → List LevelStep → ℕ
times_overtaken level place [] = 0
times_overtaken level place (step ∷ steps) =
    (if is_rival level place step.place && is_win step.deed then 1 else 0) + times_overtaken level place steps
