-- The due step of a process, taken by its seat.
use Rattle.std.specs.Prelude.{◌≡◌, ◌≢◌, ℕ, ◌+◌, ◌^◌, ◌<◌, Bool, true, false, List, [], ◌∷◌, Some}
use Rattle.std.specs.Prelude as std
use mathlib.Core.Option.{Option, none, some}
use lib.ListN.{get_elem?}
use Rattle.atomic_table.specs.Table.{State}
use Rattle.ya_core.specs.declared.process.Process.{Process}
use Rattle.ya_core.specs.Steps.{Accesses, access_of, next_of, value_of}
use Rattle.ya_core.specs.Worlds.{is_inside}
use Rattle.ya_lock.specs.declared.rule.View.{View}
use Rattle.ya_lock.specs.Rule.{Slots, count_after, words_in, Rule, free, view_at, bell_after}

module _ {V : Type 0} where
  -- a process that is to leave the inside has put a value in the slot that its place may leave after the value it
  -- found; every other process has no slot
  abbrev pub IsReady : (done : ℕ → V → V → Type 0) → Bool → ℕ → V → Slots V → Type 0
  IsReady done true place value slots = (next : V) × (slots ≡ (0, Some next) ∷ []) × done place value next
  IsReady done false place value slots = slots ≡ []

  -- the process after its step with the words as they are
  abbrev pub process_after : ℕ → State (std.Option V) (View V) → ℕ → Process → Process
  process_after levels s place process =
      next_of levels place process (value_of (words_in levels s.words) (access_of levels place process))

  -- the value's movement in a step, by whether its process was inside before it and is inside after it, and the slot's
  -- contents before and after. The step out gives back the value that was put in the slot, and the place has then seen
  -- it. The step in takes the value from the slot, which others may have made of the value that the place had seen.
  -- Every other step leaves all of this as it is
  abbrev pub MovesValue : (since : ℕ → V → V → Type 0) → (before after : Bool) → ℕ → (seen next : V) → Slots V
      → (homes homes' : List (Option (std.Option V))) → Type 0
  MovesValue since true after place seen next slots homes homes' =
      (slots ≡ (0, Some next) ∷ []) × (homes' ≡ some (Some next) ∷ [])
  MovesValue since false true place seen next slots homes homes' =
      since place seen next × (homes ≡ some (Some next) ∷ []) × (homes' ≡ none ∷ [])
  MovesValue since false false place seen next slots homes homes' = (next ≡ seen) × (homes' ≡ homes)

  -- between the two moments a seat takes the due step of its process, which has seen this value, made `count` remote
  -- accesses and has these slots. The access happens, its view goes on as the core's row says and counts the access,
  -- the value moves, no other seat's view changes, and the rule holds
  pub record TakesStep (since : ℕ → V → V → Type 0) (levels seat place : ℕ) (process : Process) (seen : V) (count : ℕ)
      (slots : Slots V) (s t : State (std.Option V) (View V)) : Type 0 where
    pub access : Accesses (access_of levels place process) (words_in levels s.words) (words_in levels t.words)
    pub value : V
    pub own : get_elem? t.views seat
        ≡ some (view_at (bell_after process (value_of (words_in levels s.words) (access_of levels place process))) place
        (process_after levels s place process) value (count_after levels place process count))
    pub moves : MovesValue since (is_inside process) (is_inside (process_after levels s place process)) place seen value slots
        s.homes t.homes
    pub others : (other : ℕ) → other ≢ seat → get_elem? t.views other ≡ get_elem? s.views other
    pub rule : Rule since levels t

  -- each seat of a process that is ready and owes no ring may take its due step
  abbrev pub EachMayStep : (since done : ℕ → V → V → Type 0) → ℕ → State (std.Option V) (View V) → Type 0
  EachMayStep since done levels s =
      (seat place : ℕ) (vain : Bool) (process : Process) (value : V) (count : ℕ) (slots : Slots V)
      → get_elem? s.views seat ≡ some (view_at (free vain) place process value count)
      → IsReady done (is_inside process) place value slots
      → (t : State (std.Option V) (View V)) × TakesStep since levels seat place process value count slots s t
