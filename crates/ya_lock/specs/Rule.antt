-- The rule of the running lock: the words, the lent value and all seats' views between any two atomic steps.
use Rattle.std.specs.Prelude.{◌≡◌, ◌≢◌, ◌⊎◌, ℕ, ◌+◌, ◌-◌, ◌*◌, ◌^◌, ◌<◌, ◌≤◌, ◌==◌, Bool, true, false, if◌then◌else◌}
use Rattle.std.specs.Prelude.{List, [], ◌∷◌, length, slice_index, None, Some}
use Rattle.std.specs.Prelude as std
use mathlib.Core.Option.{Option, none, some}
use lib.ListN.{get_elem?}
use Rattle.atomic_table.specs.Table.{State}
use Rattle.ya_core.specs.declared.word.Word.{Word}
use Rattle.ya_core.specs.declared.process.EntryPoint.{EntryPoint}
use Rattle.ya_core.specs.declared.process.EntryPoint.TheVariants.{E1, E2, E3, E4, E7, E8, E10}
use Rattle.ya_core.specs.declared.process.ExitPoint.TheVariants.{X3}
use Rattle.ya_core.specs.declared.process.Process.{Process}
use Rattle.ya_core.specs.declared.process.Process.TheVariants.{Idle, Entering, Inside, Leaving}
use Rattle.ya_core.specs.ArbitrationTree.{number_of, count_of_words}
use Rattle.ya_core.specs.Soundness.{IsSoundState}
use Rattle.ya_core.specs.Steps.{access_of, next_of, value_of}
use Rattle.ya_core.specs.WalkerModel.{cost_of, is_waiting}
use Rattle.ya_core.specs.FlatRow.{is_word}
use Rattle.ya_core.specs.Worlds.{is_inside}
use Rattle.ya_lock.specs.declared.rule.TheConstants.{SPACING}
use Rattle.ya_lock.specs.declared.rule.View.{View}
use Rattle.ya_lock.specs.declared.rule.View.TheVariants.{Unused, Making, Filling, HandingOut, Seated, Watching, Owes, Joining, Spent}

-- the index of a word of the tree: in the order of the words' numbers, a cache line apart
unfoldable pub index_of : ℕ → Word → ℕ
index_of levels word = SPACING * number_of levels word

-- the index of the making word, after all words of the tree
unfoldable pub making_index : ℕ → ℕ
making_index levels = SPACING * count_of_words levels

-- the index of the bell of a place: after the making word, a cache line apart as well
unfoldable pub bell_index : ℕ → ℕ → ℕ
bell_index levels place = making_index levels + SPACING * (1 + place)

-- the length of the row: a cache line for each word of the tree, for the making word, and for the bell of each place
abbrev pub row_length : ℕ → ℕ
row_length levels = making_index levels + SPACING * (1 + 2 ^ levels)

-- the values of the words of the tree
unfoldable pub words_in : ℕ → List ℕ → Word → ℕ
words_in levels row word = if is_word levels word then slice_index row (index_of levels word) else 0

-- the place of a process's view
abbrev pub place_of_view : {V : Type 0} → View V → Option ℕ
place_of_view (Seated place process value count) = some place
place_of_view (Watching place process value count) = some place
place_of_view (Owes place process value count rival) = some place
place_of_view (Joining place value other seen count) = some place
place_of_view _ = none

-- the minimum number of remote accesses of a process at a level, by its point on its way in
abbrev pub least_at : EntryPoint → ℕ
least_at E1 = 0
least_at E2 = 1
least_at E3 = 2
least_at E4 = 2
least_at _ = 3

-- the minimum number of remote accesses of a process since its last acquisition began: three for each level that it has
-- won
abbrev pub least_count : ℕ → Process → ℕ
least_count levels Idle = 0
least_count levels (Entering level point) = 3 * (level - 1) + least_at point
least_count levels Inside = 3 * levels
least_count levels (Leaving level point) = 3 * levels

-- the remote accesses of a process since its last acquisition began: the next access of an idle process begins an
-- acquisition
abbrev pub count_from : Process → ℕ → ℕ
count_from Idle last = 0
count_from _ count = count

-- the count of remote accesses after the due access, which counts if it is remote
abbrev pub count_after : ℕ → ℕ → Process → ℕ → ℕ
count_after levels place process count =
    count_from process count + cost_of place (access_of levels place process)

-- what the seat of a process knows of bells
pub data BellKnowledge : Type 0 where
  -- nothing
  Quiet : BellKnowledge
  -- its process waits: the seat has looked at its spin word in vain since it last stored in its own bell
  Vain : BellKnowledge
  -- it owes this place a ring: it has stored in the place's spin word, and since then it has neither found the place's
  -- bell other than 1 nor stored 0 there
  Debt : ℕ → BellKnowledge

-- the knowledge of a seat that owes no ring: whether it has looked in vain
abbrev pub free : Bool → BellKnowledge
free true = Vain
free false = Quiet

-- the view of a process whose seat knows this of bells
abbrev pub view_at : {V : Type 0} → BellKnowledge → ℕ → Process → V → ℕ → View V
view_at Quiet place process value count = Seated place process value count
view_at Vain place process value count = Watching place process value count
view_at (Debt rival) place process value count = Owes place process value count rival

-- the knowledge after the due access, which found or stored this number. After the stores of e7 and x3 the seat owes a
-- ring to the place in whose spin word it has stored. A load at e8 or e10 was in vain if the process still waits
abbrev pub bell_after : Process → ℕ → BellKnowledge
bell_after (Entering level (E7 rival)) found = Debt rival
bell_after (Entering level E8) found = free (found == 0)
bell_after (Entering level E10) found = if found == 2 then Quiet else Vain
bell_after (Leaving level (X3 rival)) found = Debt rival
bell_after _ found = Quiet

-- the seat owes this place a ring
abbrev pub OwesRing : {V : Type 0} → View V → ℕ → Type 0
OwesRing (Owes place process value count rival) other = rival ≡ other
OwesRing _ other = ⊥

-- the seat has the place's process, and has looked in vain
abbrev pub IsWatching : {V : Type 0} → View V → ℕ → Process → Type 0
IsWatching (Watching place process value count) p x = (place ≡ p) × (process ≡ x)
IsWatching _ p x = ⊥

-- some seat owes the place a ring
abbrev pub IsOwedRing : {V : Type 0} → List (View V) → ℕ → Type 0
IsOwedRing {V} views place =
    (seat : ℕ) × ((view : View V) × (get_elem? views seat ≡ some view) × OwesRing view place)

-- with these words, a step of the place's process leads to another process
abbrev pub CanGoOn : ℕ → (Word → ℕ) → ℕ → Process → Type 0
CanGoOn levels words place process =
    next_of levels place process (value_of words (access_of levels place process)) ≢ process

-- the place's bell isn't 1, or some seat owes the place a ring
abbrev pub IsRung : {V : Type 0} → ℕ → List ℕ → List (View V) → ℕ → Type 0
IsRung levels row views place = (slice_index row (bell_index levels place) ≢ 1) ⊎ IsOwedRing views place

-- no wake-up is lost: a process that has looked in vain waits, and if it can go on, its place is rung
abbrev pub NoneIsForgotten : {V : Type 0} → ℕ → List ℕ → List (View V) → Type 0
NoneIsForgotten {V} levels row views =
    (seat place : ℕ) (process : Process) (view : View V) → get_elem? views seat ≡ some view → IsWatching view place process
    → (is_waiting process ≡ true)
    × (CanGoOn levels (words_in levels row) place process → IsRung levels row views place)

-- the slots that a seat has taken, each with its value
abbrev pub Slots : Type 0 → Type 0
Slots V = List (ℕ × std.Option V)

-- the common view of all seats: the seat of each place, if one has its process; each place's process; the seat that
-- makes the passes; and the lent value, once it was given
pub record GlobalView (V : Type 0) : Type 0 where
  pub seat_of : ℕ → Option ℕ
  pub processes : ℕ → Process
  pub maker : Option ℕ
  pub content : Option V

module _ {V : Type 0} (since : ℕ → V → V → Type 0) where
  -- inside, the value found is the content; else the content is what others may have made of the value seen
  abbrev pub KnowsValue : Option V → ℕ → Bool → V → Type 0
  KnowsValue content place true value = content ≡ some value
  KnowsValue content place false value = (now : V) × (content ≡ some now) × since place value now

  -- the value, once it was given, is in its slot exactly if no process is inside
  abbrev pub ValueInSlot : (ℕ → Process) → List (Option (std.Option V)) → Option V → Type 0
  ValueInSlot processes homes none = Unit {0}
  ValueInSlot processes homes (some value) =
      (((place : ℕ) → is_inside (processes place) ≡ false) → homes ≡ some (Some value) ∷ [])
      × ((place : ℕ) → is_inside (processes place) ≡ true → homes ≡ none ∷ [])

  module _ (levels : ℕ) (s : State (std.Option V) (View V)) (x : GlobalView V) where
    -- `new` has begun to make the passes
    abbrev pub IsBegun : Type 0
    IsBegun = slice_index s.words (making_index levels) ≢ 0

    -- the place's process, with what its seat has seen and its count, fits the global view
    abbrev pub ProcessFits : ℕ → ℕ → Process → V → ℕ → Type 0
    ProcessFits seat place process value count =
        IsBegun × (x.seat_of place ≡ some seat) × (x.processes place ≡ process)
        × KnowsValue x.content place (is_inside process) value × (least_count levels process ≤ count)
        × (place < 2 ^ levels)

    -- the view of a seat fits the global view
    abbrev pub ViewFits : ℕ → View V → Type 0
    ViewFits seat Unused = Unit {0}
    ViewFits seat Making = IsBegun × (x.maker ≡ some seat) × (x.content ≡ none) × (s.homes ≡ some None ∷ [])
    ViewFits seat Filling = IsBegun × (x.maker ≡ some seat) × (x.content ≡ none) × (length s.homes ≡ 1)
    ViewFits seat (HandingOut first value) =
        IsBegun × (x.maker ≡ some seat) × (first < 2 ^ levels)
        × ((place : ℕ) → first ≤ place → (x.seat_of place ≡ none) × KnowsValue x.content place false value)
    ViewFits seat (Seated place process value count) = ProcessFits seat place process value count
    ViewFits seat (Watching place process value count) = ProcessFits seat place process value count
    ViewFits seat (Owes place process value count rival) = ProcessFits seat place process value count
    ViewFits seat (Joining place value other seen count) =
        IsBegun × (x.seat_of place ≡ some seat) × (x.processes place ≡ Inside) × KnowsValue x.content place true value
        × KnowsValue x.content other false seen × (least_count levels Inside ≤ count) × (place < 2 ^ levels)
    ViewFits seat Spent = IsBegun

    -- the global view agrees with the words, the value and the views
    pub record Obeys : Type 0 where
      -- making: while the making word is 0 the slot is empty, and before the value was given no seat has a process
      pub wide : length s.words ≡ row_length levels
      pub unmade : slice_index s.words (making_index levels) ≡ 0 → (x.content ≡ none) × (s.homes ≡ some None ∷ [])
      pub before : x.content ≡ none → (place : ℕ) → x.seat_of place ≡ none
      -- lock: the seat of a place has its process, a place without a seat is idle, and the invariant of the core holds
      -- of the words and all processes
      pub seated : (place seat : ℕ) → x.seat_of place ≡ some seat
          → (view : View V) × (get_elem? s.views seat ≡ some view) × (place_of_view view ≡ some place)
      pub absent : (place : ℕ) → x.seat_of place ≡ none → x.processes place ≡ Idle
      pub sound : IsSoundState levels (record { words = words_in levels s.words; processes = x.processes })
      -- value: once given, it is in its slot exactly if no process is inside, and each seat's view fits
      pub lies : ValueInSlot x.processes s.homes x.content
      pub fits : (seat : ℕ) (view : View V) → get_elem? s.views seat ≡ some view → ViewFits seat view

  -- some global view agrees with the words, the value and the views, and no wake-up is lost
  abbrev pub Rule : ℕ → State (std.Option V) (View V) → Type 0
  Rule levels s = (x : GlobalView V) × Obeys levels s x × NoneIsForgotten levels s.words s.views
