-- The effect of each atomic step of a seat on its thread's knowledge.
use Rattle.std.specs.Prelude.{◌≡◌, ◌≢◌, ◌≤◌, ℕ, ◌+◌, Bool, true, false, List, [], ◌∷◌, Some, None}
use Rattle.std.specs.Prelude as std
use Rattle.atomic_table.specs.Table.{Me}
use Rattle.ya_core.specs.declared.process.Process.TheVariants.{Idle, Inside}
use Rattle.ya_core.specs.Steps.{access_of, next_of}
use Rattle.ya_core.specs.WalkerModel.{MayBeTold}
use Rattle.ya_lock.specs.declared.rule.View.{View}
use Rattle.ya_lock.specs.declared.rule.View.TheVariants.{Unused, Making, Filling, HandingOut, Seated, Watching, Owes, Joining}
use Rattle.ya_core.specs.Worlds.{is_inside}
use Rattle.ya_core.specs.declared.process.Process.{Process}
use Rattle.ya_lock.specs.Rule.{Slots, count_after, view_at, bell_after}

module _ {V : Type 0} where
  -- the swap that begins to make the passes: the seat is the maker if it found 0, and else unused
  abbrev pub BeginsMaking : ℕ → Me (std.Option V) (View V) → Type 0
  BeginsMaking found me = (found ≡ 0 → me ≡ (Making, [])) × (found ≢ 0 → me ≡ (Unused, [])) × (me.1 ≡ [])

  -- the maker takes the empty slot
  abbrev pub TakesSlot : View V → Me (std.Option V) (View V) → Type 0
  TakesSlot Making me = me ≡ (Filling, (0, None) ∷ [])
  TakesSlot _ me = Unit {0}

  -- it gives the slot home with the value that it put there
  abbrev pub GivesValue : View V → Slots V → Me (std.Option V) (View V) → Type 0
  GivesValue Filling slots me = (value : V) → slots ≡ (0, Some value) ∷ [] → me ≡ (HandingOut 0 value, [])
  GivesValue _ slots me = Unit {0}

  -- it hands out the pass of its first place, which it keeps no longer
  abbrev pub handed_out : View V → View V
  handed_out (HandingOut first value) = Seated first Idle value 0
  handed_out view = view

  -- the remaining places of the seat that makes the passes: those after that one
  abbrev pub rest_to_hand_out : View V → View V
  rest_to_hand_out (HandingOut first value) = HandingOut (first + 1) value
  rest_to_hand_out view = view

  -- it becomes the pass of its last place
  abbrev pub HandsOutLast : View V → Slots V → Me (std.Option V) (View V) → Type 0
  HandsOutLast (HandingOut first value) slots me = me ≡ (Seated first Idle value 0, slots)
  HandsOutLast _ slots me = Unit {0}

  -- the process inside takes in an idle one
  abbrev pub joined_view : View V → View V → View V
  joined_view (Seated place process value count) (Seated other process' seen last) = Joining place value other seen count
  joined_view view other = view

  -- a seat that stores in its own bell has not looked since
  abbrev pub awake : View V → View V
  awake (Watching place process value count) = Seated place process value count
  awake view = view

  -- a seat that has found its rival's bell other than 1, or has stored 0 there, owes no ring
  abbrev pub paid : View V → View V
  paid (Owes place process value count rival) = Seated place process value count
  paid view = view

  -- a place stores this number in its own bell: 0 or 1
  abbrev pub SetsBell : ℕ → Me (std.Option V) (View V) → Me (std.Option V) (View V) → Type 0
  SetsBell number before after = (number ≤ 1) × (after ≡ (awake before.0, before.1))

  -- a seat that owes a ring stores this number in the bell: 0
  abbrev pub ClearsBell : ℕ → Me (std.Option V) (View V) → Me (std.Option V) (View V) → Type 0
  ClearsBell number before after = (number ≡ 0) × (after ≡ (paid before.0, before.1))

  -- a seat that owes a ring loads the bell
  abbrev pub FindsBell : ℕ → Me (std.Option V) (View V) → Me (std.Option V) (View V) → Type 0
  FindsBell found before after = (found ≡ 1 → after ≡ before) × (found ≢ 1 → after ≡ (paid before.0, before.1))

  module _ (since : ℕ → V → V → Type 0) where
    -- the change of the seat's slots in a step, by whether the process was inside before it and is inside after it. The
    -- step out gives the slot home with the value in it, the step in takes the slot with the value found, and every
    -- other step leaves the slots as they are
    abbrev pub CarriesValue : (inside_before inside_after : Bool) → ℕ → V → Slots V → V → Slots V → Type 0
    CarriesValue true inside_after place value slots next slots' = (slots ≡ (0, Some next) ∷ []) × (slots' ≡ [])
    CarriesValue false true place value slots next slots' = since place value next × (slots' ≡ (0, Some next) ∷ [])
    CarriesValue false false place value slots next slots' = (next ≡ value) × (slots' ≡ slots)

    -- a process takes its due step: it finds a value that its word can hold, goes on as the core says, its remote
    -- accesses are counted, and its seat knows of bells what the access says
    abbrev pub TakesDueStep : ℕ → ℕ → ℕ → Process → V → ℕ → Slots V → Me (std.Option V) (View V) → Type 0
    TakesDueStep levels found place process value count slots me =
        MayBeTold (Some (access_of levels place process)) found
        × ((next : V)
        × (me.0 ≡ view_at (bell_after process found) place (next_of levels place process found) next
        (count_after levels place process count))
        × CarriesValue (is_inside process) (is_inside (next_of levels place process found)) place value slots next me.1)

    -- unless the seat owes a ring
    abbrev pub ProcessSteps : ℕ → ℕ → View V → Slots V → Me (std.Option V) (View V) → Type 0
    ProcessSteps levels found (Seated place process value count) slots me =
        TakesDueStep levels found place process value count slots me
    ProcessSteps levels found (Watching place process value count) slots me =
        TakesDueStep levels found place process value count slots me
    ProcessSteps levels found _ slots me = Unit {0}

    -- the process inside learns that others may have made its value of the value that the other process has seen
    abbrev pub LearnsSince : View V → Slots V → Me (std.Option V) (View V) → Type 0
    LearnsSince (Joining place value other seen count) slots me =
        since other seen value × (me ≡ (Seated place Inside value count, slots))
    LearnsSince _ slots me = Unit {0}
