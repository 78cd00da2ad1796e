-- The kinds of step that the seats of a lock's table take, each with its effect on the seat, and the parts of the state
-- that a step leaves as they are.
use Rattle.std.specs.Prelude.{◌≡◌, ◌≢◌, ◌↔◌, ℕ, ◌<◌, Bool, false, List, [], ◌∷◌, ◌++◌, slice_index, slice_set, Some, ◌⊎◌}
use Rattle.std.specs.Prelude as std
use mathlib.Core.Option.{Option, none, some}
use lib.ListN.{get_elem?}
use Rattle.atomic_table.specs.Table.{State, Me, Act, Valid, carried_after, homes_after, stepped}
use Rattle.ya_core.specs.declared.word.Word.{Word}
use Rattle.ya_core.specs.declared.process.Process.{Process}
use Rattle.ya_core.specs.declared.process.Process.TheVariants.{Idle, Inside}
use Rattle.ya_core.specs.Machines.{word_of}
use Rattle.ya_core.specs.Steps.{access_of, value_of}
use Rattle.ya_core.specs.Worlds.{is_inside}
use Rattle.ya_lock.specs.declared.rule.View.{View}
use Rattle.ya_lock.specs.declared.rule.View.TheVariants.{Making, Filling, HandingOut, Seated, Joining, Spent}
use Rattle.ya_lock.specs.Rule.{Slots, index_of, making_index, words_in, free, view_at}
use Rattle.ya_lock.specs.LockState.{HasProcess}
use Rattle.ya_lock.specs.StepEffects.{BeginsMaking, TakesSlot, GivesValue, HandsOutLast, TakesDueStep, LearnsSince}
use Rattle.ya_lock.specs.StepEffects.{handed_out, rest_to_hand_out, joined_view, awake, paid}
use Rattle.ya_lock.specs.DueStep.{TakesStep}

module _ {V : Type 0} where
  -- a seat has no slot, or the one slot of the lock, which is then out
  abbrev pub HasSlot : Slots V → List (Option (std.Option V)) → Type 0
  HasSlot slots homes = (slots ≡ []) ⊎ ((held : std.Option V) × (slots ≡ (0, held) ∷ []) × (homes ≡ none ∷ []))

  -- the maker's loads except the gift: it takes the empty slot, or becomes the pass of its last place
  abbrev pub MakerIsTold : View V → Slots V → Me (std.Option V) (View V) → Type 0
  MakerIsTold Making slots after = TakesSlot Making after
  MakerIsTold (HandingOut first value) slots after = HandsOutLast (HandingOut first value) slots after
  MakerIsTold _ slots after = ⊥

  module _ (s t : State (std.Option V) (View V)) where
    -- one access changes the word to the number, and gives the seat this view and these slots
    pub record SeatSteps (seat word number : ℕ) (slots : Slots V) (after : Me (std.Option V) (View V)) : Type 0 where
      pub slot : HasSlot slots s.homes
      pub act : Act (std.Option V)
      pub valid : Valid s.homes slots act
      pub carries : carried_after slots act ≡ after.1
      pub leads : t ≡ stepped s word number seat slots after.0 act

    -- as `SeatSteps`, for a load, which leaves its word as it is
    abbrev pub SeatLoads : ℕ → ℕ → Slots V → Me (std.Option V) (View V) → Type 0
    SeatLoads seat word slots after = SeatSteps seat word (slice_index s.words word) slots after

    -- the seat of a process makes its due access, with the effect of such a step
    pub record MakesDueAccess (since : ℕ → V → V → Type 0) (levels seat place : ℕ) (process : Process) (seen : V)
        (count : ℕ) (slots : Slots V) : Type 0 where
      pub vain : Bool
      pub view : get_elem? s.views seat ≡ some (view_at (free vain) place process seen count)
      pub after : Me (std.Option V) (View V)
      pub steps : SeatSteps seat (index_of levels (word_of (access_of levels place process)))
          (value_of (words_in levels s.words) (access_of levels place process)) slots after
      pub told : TakesDueStep since levels (value_of (words_in levels s.words) (access_of levels place process)) place process
          seen count slots after

    -- a new seat swaps 1 into the making word
    pub record SwapsToMake (levels : ℕ) : Type 0 where
      pub view : View V
      pub act : Act (std.Option V)
      pub valid : Valid s.homes [] act
      pub told : BeginsMaking (slice_index s.words (making_index levels)) (view, carried_after [] act)
      pub leads : t ≡ record {
        words = slice_set s.words (making_index levels) 1;
        homes = homes_after s.homes [] act;
        views = s.views ++ view ∷ [];
      }

    -- the seat that makes the passes loads a word, and isn't to give the value
    pub record MakerLoads : Type 0 where
      pub seat : ℕ
      pub word : ℕ
      pub before : View V
      pub slots : Slots V
      pub after : Me (std.Option V) (View V)
      pub view : get_elem? s.views seat ≡ some before
      pub steps : SeatLoads seat word slots after
      pub told : MakerIsTold before slots after

    -- the gift: the seat that makes the passes gives the slot home with the value that it put there
    pub record GivesHome (value : V) : Type 0 where
      pub seat : ℕ
      pub word : ℕ
      pub after : Me (std.Option V) (View V)
      pub view : get_elem? s.views seat ≡ some Filling
      pub steps : SeatLoads seat word ((0, Some value) ∷ []) after
      pub told : GivesValue Filling ((0, Some value) ∷ []) after

    -- the seat that makes the passes splits off the seat of its first place
    pub record SplitsOff : Type 0 where
      pub seat : ℕ
      pub first : ℕ
      pub value : V
      pub view : get_elem? s.views seat ≡ some (HandingOut first value)
      pub leads : t ≡ record {
        words = s.words;
        homes = s.homes;
        views = slice_set s.views seat (rest_to_hand_out (HandingOut first value)) ++ handed_out (HandingOut first value) ∷ [];
      }

    -- a seat inside takes in the idle seat of a pass
    pub record JoinsPass : Type 0 where
      pub seat : ℕ
      pub place : ℕ
      pub found : V
      pub count : ℕ
      pub idle : ℕ
      pub other : ℕ
      pub seen : V
      pub last : ℕ
      pub apart : idle ≢ seat
      pub view : get_elem? s.views seat ≡ some (Seated place Inside found count)
      pub spent : get_elem? s.views idle ≡ some (Seated other Idle seen last)
      pub leads : t ≡ record {
        words = s.words;
        homes = s.homes;
        views = slice_set (slice_set s.views seat (joined_view (Seated place Inside found count) (Seated other Idle seen last))) idle Spent;
      }

    -- a seat with a joined pass learns what others may have made of the value that the pass had seen
    pub record LearnsOfPass (since : ℕ → V → V → Type 0) : Type 0 where
      pub seat : ℕ
      pub word : ℕ
      pub place : ℕ
      pub found : V
      pub other : ℕ
      pub seen : V
      pub count : ℕ
      pub slots : Slots V
      pub after : Me (std.Option V) (View V)
      pub view : get_elem? s.views seat ≡ some (Joining place found other seen count)
      pub steps : SeatLoads seat word slots after
      pub told : LearnsSince since (Joining place found other seen count) slots after

    -- a seat accesses a bell, after the making word: its view changes at most in what it knows of bells
    pub record AccessesBell (levels : ℕ) : Type 0 where
      pub seat : ℕ
      pub word : ℕ
      pub number : ℕ
      pub before : View V
      pub after : View V
      pub slots : Slots V
      pub behind : making_index levels < word
      pub view : get_elem? s.views seat ≡ some before
      pub known : (after ≡ before) ⊎ ((after ≡ awake before) ⊎ (after ≡ paid before))
      pub steps : SeatSteps seat word number slots (after, slots)

    -- every kind of step except the step of a process and the gift
    pub data IsOtherStep (since : ℕ → V → V → Type 0) (levels : ℕ) : Type 0 where
      Swap : SwapsToMake levels → IsOtherStep since levels
      MakerLoad : MakerLoads → IsOtherStep since levels
      Split : SplitsOff → IsOtherStep since levels
      Join : JoinsPass → IsOtherStep since levels
      Learn : LearnsOfPass since → IsOtherStep since levels
      Bell : AccessesBell levels → IsOtherStep since levels

    -- no word of the tree changes, and no process that isn't idle
    pub record LeavesProcesses (levels : ℕ) : Type 0 where
      pub words : (word : Word) → words_in levels t.words word ≡ words_in levels s.words word
      pub busy : (seat place : ℕ) (process : Process) (value : V) → process ≢ Idle
          → HasProcess s seat place process value ↔ HasProcess t seat place process value

  -- the content: the value in the slot, or the one that a process inside found
  abbrev pub IsContent : State (std.Option V) (View V) → V → Type 0
  IsContent s value =
      (s.homes ≡ some (Some value) ∷ []) ⊎ ((seat : ℕ) × ((place : ℕ) × HasProcess s seat place Inside value))

  -- the content is unchanged
  abbrev pub SameContent : (s t : State (std.Option V) (View V)) → Type 0
  SameContent s t = (value : V) → IsContent s value ↔ IsContent t value

  -- if a seat makes the due access of its process, that is its due step, which changes the content only if the process
  -- was inside
  abbrev pub IsDueStepAlone : (since : ℕ → V → V → Type 0) → ℕ → (s t : State (std.Option V) (View V)) → Type 0
  IsDueStepAlone since levels s t =
      (seat place : ℕ) (process : Process) (seen : V) (count : ℕ) (slots : Slots V)
      → MakesDueAccess s t since levels seat place process seen count slots
      → TakesStep since levels seat place process seen count slots s t × (is_inside process ≡ false → SameContent s t)

  -- the value becomes the content; there was no content before, and no word of the tree and no busy process changes
  abbrev pub IsGift : ℕ → (s t : State (std.Option V) (View V)) → V → Type 0
  IsGift levels s t value = LeavesProcesses s t levels × ((v : V) → ¬ IsContent s v) × IsContent t value
