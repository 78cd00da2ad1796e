-- No wake-up is lost: what the rule means for the places that may be asleep, at every moment between two atomic steps.
use Rattle.std.specs.Prelude.{◌≡◌, ◌≢◌, ℕ, ◌⊎◌}
use Rattle.std.specs.Prelude as std
use mathlib.Core.Option.{some}
use lib.ListN.{get_elem?}
use Rattle.atomic_table.specs.Table.{State}
use Rattle.ya_core.specs.declared.process.Process.{Process}
use Rattle.ya_core.specs.declared.process.Process.TheVariants.{Idle}
use Rattle.ya_lock.specs.declared.rule.View.{View}
use Rattle.ya_lock.specs.declared.rule.View.TheVariants.{Seated, Watching, Owes}
use Rattle.ya_lock.specs.Rule.{Slots, IsWatching, IsRung}
use Rattle.ya_lock.specs.LockState.{IsOf, HasProcess, GoesOn}
use Rattle.ya_lock.specs.StepKinds.{MakesDueAccess, GivesHome, IsOtherStep}

module _ {V : Type 0} where
  module _ (s : State (std.Option V) (View V)) (levels : ℕ) where
    -- a place that may be asleep is rung as soon as its process can go on
    abbrev pub EachSleeperIsRung : Type 0
    EachSleeperIsRung =
        (seat place : ℕ) (process : Process) (value : V) (count : ℕ)
        → get_elem? s.views seat ≡ some (Watching place process value count) → GoesOn s levels place process
        → IsRung levels s.words s.views place

    -- if some process takes part, some process that takes part can go on, and it isn't asleep or is rung
    abbrev pub SomeSeatIsAwake : Type 0
    SomeSeatIsAwake =
        (seat place : ℕ) (process : Process) (value : V) → HasProcess s seat place process value → process ≢ Idle
        → (other q : ℕ)
        × ((x : Process)
        × ((v : V)
        × ((view : View V)
        × (get_elem? s.views other ≡ some view) × IsOf view q x v × (x ≢ Idle) × GoesOn s levels q x
        × (IsWatching view q x → IsRung levels s.words s.views q))))

  module _ (s t : State (std.Option V) (View V)) where
    -- every kind of step
    pub data IsStep (since : ℕ → V → V → Type 0) (levels : ℕ) : Type 0 where
      Due : (seat place : ℕ) (process : Process) (seen : V) (count : ℕ) (slots : Slots V)
          → MakesDueAccess s t since levels seat place process seen count slots → IsStep since levels
      Gift : (value : V) → GivesHome s t value → IsStep since levels
      Other : IsOtherStep s t since levels → IsStep since levels

    -- each seat that owes a place a ring still owes it, or has paid: nothing else of its view has changed
    abbrev pub OwesOrHasPaid : Type 0
    OwesOrHasPaid =
        (seat place : ℕ) (process : Process) (value : V) (count rival : ℕ)
        → get_elem? s.views seat ≡ some (Owes place process value count rival)
        → (get_elem? t.views seat ≡ some (Owes place process value count rival))
        ⊎ (get_elem? t.views seat ≡ some (Seated place process value count))
