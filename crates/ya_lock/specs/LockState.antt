-- The rule's meaning for the words, the lent value and the views of all seats, at every moment between two
-- atomic steps.
use Rattle.std.specs.Prelude.{◌≡◌, ◌≢◌, ◌^◌, ◌<◌, ◌≤◌, ℕ, ◌⊎◌, List, [], ◌∷◌, slice_index, Some, None}
use Rattle.std.specs.Prelude as std
use mathlib.Core.Option.{none, some}
use lib.ListN.{get_elem?}
use Rattle.atomic_table.specs.Table.{State}
use Rattle.ya_core.specs.declared.process.Process.{Process}
use Rattle.ya_core.specs.declared.process.Process.TheVariants.{Idle, Inside}
use Rattle.ya_core.specs.Soundness.{IsSoundState}
use Rattle.ya_lock.specs.declared.rule.View.{View}
use Rattle.ya_lock.specs.declared.rule.View.TheVariants.{Unused, Making, Filling, HandingOut, Seated, Watching, Owes, Joining}
use Rattle.ya_lock.specs.Rule.{words_in, making_index, CanGoOn}

module _ {V : Type 0} where
  -- the view has the place's process, which has seen the value or, inside, found it
  abbrev pub IsOf : View V → ℕ → Process → V → Type 0
  IsOf (Seated place process value count) p x v = (place ≡ p) × (process ≡ x) × (value ≡ v)
  IsOf (Watching place process value count) p x v = (place ≡ p) × (process ≡ x) × (value ≡ v)
  IsOf (Owes place process value count rival) p x v = (place ≡ p) × (process ≡ x) × (value ≡ v)
  IsOf (Joining place value other seen count) p x v = (place ≡ p) × (Inside ≡ x) × (value ≡ v)
  IsOf _ p x v = ⊥

  -- a seat of this view is to make the passes, and hasn't given the value yet
  abbrev pub IsFilling : View V → Type 0
  IsFilling Making = Unit {0}
  IsFilling Filling = Unit {0}
  IsFilling _ = ⊥

  -- a seat of this view is to make the passes, or the passes of the places from some place on
  abbrev pub IsMaking : View V → Type 0
  IsMaking (HandingOut first value) = Unit {0}
  IsMaking view = IsFilling view

  module _ (s : State (std.Option V) (View V)) where
    -- the seat's view has the place's process, which has seen the value or, inside, found it
    abbrev pub HasProcess : ℕ → ℕ → Process → V → Type 0
    HasProcess seat place process value =
        (view : View V) × (get_elem? s.views seat ≡ some view) × IsOf view place process value

    -- the seat has the place's process, which isn't inside and has seen the value
    abbrev pub IsAway : ℕ → ℕ → V → Type 0
    IsAway seat place value = (process : Process) × (process ≢ Inside) × HasProcess seat place process value

    -- no seat has a process that is inside
    abbrev pub NoneInside : Type 0
    NoneInside = (seat place : ℕ) (value : V) → ¬ HasProcess seat place Inside value

    -- the invariant of the core holds of the words and of the processes that views show; a place without a view is idle
    abbrev pub ShowsCore : ℕ → Type 0
    ShowsCore levels =
        (processes : ℕ → Process) × IsSoundState levels (record { words = words_in levels s.words; processes = processes })
        × ((seat place : ℕ) (process : Process) (value : V) → HasProcess seat place process value
        → processes place ≡ process)
        × ((place : ℕ) → ((seat : ℕ) (process : Process) (value : V) → ¬ HasProcess seat place process value)
        → processes place ≡ Idle)

    -- with the words as they are, a step of the place's process leads to another process
    abbrev pub GoesOn : ℕ → ℕ → Process → Type 0
    GoesOn levels place process = CanGoOn levels (words_in levels s.words) place process

    -- if some seat's process takes part, some seat has a process that takes part and goes on
    abbrev pub SomeSeatGoesOn : ℕ → Type 0
    SomeSeatGoesOn levels =
        (seat place : ℕ) (process : Process) (value : V) → HasProcess seat place process value → process ≢ Idle
        → (other q : ℕ) × ((x : Process) × ((v : V) × HasProcess other q x v × (x ≢ Idle) × GoesOn levels q x))

    -- each place with a process is one of the tree's
    abbrev pub EachInTree : ℕ → Type 0
    EachInTree levels =
        (seat place : ℕ) (process : Process) (value : V) → HasProcess seat place process value → place < 2 ^ levels

    -- two views of the same place belong to the same seat
    abbrev pub OneSeatAPlace : Type 0
    OneSeatAPlace =
        (one other place : ℕ) (x y : Process) (v w : V) → HasProcess one place x v → HasProcess other place y w
        → one ≡ other

    -- two views inside belong to the same seat
    abbrev pub OneInside : Type 0
    OneInside = (one other p q : ℕ) (v w : V) → HasProcess one p Inside v → HasProcess other q Inside w → one ≡ other

    -- the seat has given this value, and is still to make the place's pass
    abbrev pub IsToMake : ℕ → ℕ → V → Type 0
    IsToMake seat place given =
        (first : ℕ) × (get_elem? s.views seat ≡ some (HandingOut first given)) × (first ≤ place)

    -- the value was given: some seat has a process, or is still to make a pass
    abbrev pub IsGiven : Type 0
    IsGiven =
        (seat place : ℕ)
        × ((value : V) × (((process : Process) × HasProcess seat place process value) ⊎ IsToMake seat place value))

    -- once it was given, the value is in its slot exactly if no process is inside
    abbrev pub IsInSlot : Type 0
    IsInSlot =
        ((seat place : ℕ) (value : V) → HasProcess seat place Inside value → s.homes ≡ none ∷ [])
        × (IsGiven → NoneInside → (now : V) × (s.homes ≡ some (Some now) ∷ []))

    -- the current value, in the slot or found by the process inside, is what others may have made of the value that a
    -- place away has seen, or that a place was given whose pass is still to be made
    abbrev pub IsFresh : (ℕ → V → V → Type 0) → Type 0
    IsFresh since =
        (seat place : ℕ) (seen now : V) → IsAway seat place seen ⊎ IsToMake seat place seen
        → ((s.homes ≡ some (Some now) ∷ [] → since place seen now)
        × ((one other : ℕ) → HasProcess one other Inside now → since place seen now))

    -- the making of the passes: while the making word is 0, no seat knows anything and the slot is empty; one seat
    -- makes them. Until it has given the value no seat has a process, and then no seat has the process of a place whose
    -- pass is still to be made
    pub record IsMadeByOne (levels : ℕ) : Type 0 where
      pub unused : slice_index s.words (making_index levels) ≡ 0 → (seat : ℕ) (view : View V)
          → get_elem? s.views seat ≡ some view → view ≡ Unused
      pub empty : slice_index s.words (making_index levels) ≡ 0 → s.homes ≡ some None ∷ []
      pub one_maker : (one other : ℕ) (v w : View V) → get_elem? s.views one ≡ some v → IsMaking v
          → get_elem? s.views other ≡ some w → IsMaking w → one ≡ other
      pub unfilled : (seat : ℕ) (view : View V) → get_elem? s.views seat ≡ some view → IsFilling view
          → (other place : ℕ) (process : Process) (value : V) → ¬ HasProcess other place process value
      pub not_made : (seat first : ℕ) (given : V) → get_elem? s.views seat ≡ some (HandingOut first given)
          → (other place : ℕ) (process : Process) (value : V) → first ≤ place → ¬ HasProcess other place process value

-- the properties of words, value and views at every moment between two atomic steps of the seats
pub record IsLockState {V : Type 0} (since : ℕ → V → V → Type 0) (levels : ℕ)
    (s : State (std.Option V) (View V)) : Type 0 where
  pub core : ShowsCore s levels
  pub progress : SomeSeatGoesOn s levels
  pub in_tree : EachInTree s levels
  pub places : OneSeatAPlace s
  pub exclusion : OneInside s
  pub value : IsInSlot s
  pub fresh : IsFresh s since
  pub making : IsMadeByOne s levels
