-- Examples of the rule of the lock.
use Rattle.std.proofs.Common.{◌≡◌, ℕ, zero, suc, ◌<◌, ◌≤◌, [], ◌∷◌, ◌++◌, ◌∙◌, refl, sym, subst, arith, Some, replicate, set}
use Rattle.std.specs.Prelude as std
use Rattle.std.specs.Prelude.{◌-◌}
use mathlib.Core.Option.{Option, none, some, some-injective, some-ne-none}
use lib.ListN.{get_elem?}
use Rattle.atomic_table.specs.Table.{State}
use Rattle.ya_core.specs.declared.word.Word.{Word}
use Rattle.ya_core.specs.declared.word.Word.TheVariants.{C, P}
use Rattle.ya_core.specs.declared.process.EntryPoint.TheVariants.{E1, E2, E3, E4, E8}
use Rattle.ya_core.specs.declared.process.ExitPoint.TheVariants.{X1}
use Rattle.ya_core.specs.declared.process.Process.{Process}
use Rattle.ya_core.specs.declared.process.Process.TheVariants.{Idle, Entering, Inside, Leaving}
use Rattle.ya_core.specs.ArbitrationTree.{number_of, count_of_words}
use Rattle.ya_core.specs.Soundness.{IsSoundState}
use Rattle.ya_core.proofs.Promised.{opens}
use Rattle.ya_lock.specs.declared.rule.View.{View}
use Rattle.ya_lock.specs.declared.rule.View.TheVariants.{HandingOut, Seated, Joining, Spent}
use Rattle.ya_lock.specs.Rule.{index_of, making_index, words_in, row_length, place_of_view, least_at, least_count, count_from, count_after}
use Rattle.ya_lock.specs.Rule.{GlobalView, IsBegun, IsWatching, ViewFits, Rule}
use Rattle.ya_lock.proofs.WordsInRow.{words_zero, words_behind}
use Rattle.lock_examples.proofs.Lock.LockState.{both_away, raised, unmade}

-- index_of
the_last_word_of_one_level : index_of 1 (P 1 1) ≡ 32
unfolding index_of number_of
the_last_word_of_one_level = refl

-- making_index
a_cache_line_behind_it : making_index 1 ≡ 40
unfolding making_index count_of_words
a_cache_line_behind_it = refl

-- words_in
what_lies_at_its_index : words_in 1 (replicate 32 0 ++ 9 ∷ []) (P 1 1) ≡ 9
unfolding words_in index_of number_of
what_lies_at_its_index = refl

a_word_that_the_tree_has_not : words_in 1 (replicate 41 9) (C 1 1 0) ≡ 0
unfolding words_in
a_word_that_the_tree_has_not = refl

-- both places are away, and the row has the length of a lock's row
abbrev pub both_made : State (std.Option ℕ) (View ℕ)
both_made = record {
  words = set (replicate 64 0) (making_index 1) 1;
  homes = some (Some 7) ∷ [];
  views = Seated 0 Idle 7 0 ∷ Seated 1 Idle 5 0 ∷ [];
}

-- the seat of each of the two places, and the view of all seats together
abbrev seats : ℕ → Option ℕ
seats zero = some 0
seats (suc zero) = some 1
seats (suc (suc place)) = none

abbrev both_are_away : GlobalView ℕ
both_are_away = record { seat_of = seats; processes = λ place. Idle; maker = none; content = some 7 }

-- both passes were made, each with a seen value of its own, and a third value is in the slot
abbrev both_have_seen : {V : Type 0} → V → V → V → State (std.Option V) (View V)
both_have_seen first second now = record {
  words = both_made.words;
  homes = some (Some now) ∷ [];
  views = Seated 0 Idle first 0 ∷ Seated 1 Idle second 0 ∷ [];
}

abbrev both_away_with : {V : Type 0} → V → GlobalView V
both_away_with now = record { seat_of = seats; processes = λ place. Idle; maker = none; content = some now }

module _ {V : Type 0} (since : ℕ → V → V → Type 0) (first second now : V) (from_first : since 0 first now)
    (from_second : since 1 second now) where
  abbrev state : State (std.Option V) (View V)
  state = both_have_seen first second now

  seat_of_each : (place seat : ℕ) → seats place ≡ some seat
      → (view : View V) × (get_elem? state.views seat ≡ some view) × (place_of_view view ≡ some place)
  seat_of_each zero seat is =
      subst (λ (n : ℕ). (view : View V) × (get_elem? state.views n ≡ some view) × (place_of_view view ≡ some 0)) (some-injective 0 seat is)
      (Seated 0 Idle first 0, refl, refl)
  seat_of_each (suc zero) seat is =
      subst (λ (n : ℕ). (view : View V) × (get_elem? state.views n ≡ some view) × (place_of_view view ≡ some 1)) (some-injective 1 seat is)
      (Seated 1 Idle second 0, refl, refl)
  seat_of_each (suc (suc place)) seat is = absurd (some-ne-none seat (sym is))

  making_has_begun : IsBegun since 1 state (both_away_with now)
  unfolding making_index count_of_words
  making_has_begun unmade = let clash : 1 ≡ 0 = unmade in omega (arith, clash)

  view_of_each : (seat : ℕ) (view : View V) → get_elem? state.views seat ≡ some view
      → ViewFits since 1 state (both_away_with now) seat view
  view_of_each zero view at =
      subst (ViewFits since 1 state (both_away_with now) 0) (some-injective (Seated 0 Idle first 0) view at)
      (making_has_begun, refl, refl, (now, refl, from_first), (let none : 0 ≤ 0 = omega arith in none), (let in_tree : 0 < 2 = omega arith in in_tree))
  view_of_each (suc zero) view at =
      subst (ViewFits since 1 state (both_away_with now) 1) (some-injective (Seated 1 Idle second 0) view at)
      (making_has_begun, refl, refl, (now, refl, from_second), (let none : 0 ≤ 0 = omega arith in none), (let in_tree : 1 < 2 = omega arith in in_tree))
  view_of_each (suc (suc seat)) view at = absurd (some-ne-none view (sym at))

  neither_watches : (seat : ℕ) (view : View V) (place : ℕ) (process : Process) → get_elem? state.views seat ≡ some view
      → ¬ IsWatching view place process
  neither_watches zero view place process at watches =
      subst (λ v. IsWatching v place process) (sym (some-injective (Seated 0 Idle first 0) view at)) watches
  neither_watches (suc zero) view place process at watches =
      subst (λ v. IsWatching v place process) (sym (some-injective (Seated 1 Idle second 0) view at)) watches
  neither_watches (suc (suc seat)) view place process at watches = some-ne-none view (sym at)

  both_passes_seen : Rule since 1 state
  unfolding making_index count_of_words
  both_passes_seen = (
    both_away_with now,
    record {
      wide = refl;
      unmade = λ empty. let clash : 1 ≡ 0 = empty in absurd (omega (arith, clash));
      before = λ given. absurd (some-ne-none now given);
      seated = seat_of_each;
      absent = λ place away. refl;
      sound =
          subst (λ (words : Word → ℕ). IsSoundState 1 record { words = words; processes = λ place. Idle })
          (sym (words_behind 1 (making_index 1) (replicate 64 0) 1 (omega arith) ∙ words_zero 1 64)) (opens 1);
      lies = (λ away. refl, λ place is. cc);
      fits = view_of_each;
    },
    λ seat place process view at watches. absurd (neither_watches seat view place process at watches),
  )

-- Rule
pub once_both_passes_were_made : Rule raised 1 both_made
once_both_passes_were_made = both_passes_seen raised 7 5 7 (let kept : 7 ≤ 7 = omega arith in kept) (let risen : 5 ≤ 7 = omega arith in risen)

whatever_is_lent : {V : Type 0} (since : ℕ → V → V → Type 0) (value : V) → ((place : ℕ) → since place value value)
    → Rule since 1 (both_have_seen value value value)
whatever_is_lent since value same = both_passes_seen since value value value (same 0) (same 1)

not_in_a_row_without_bells : ¬ Rule raised 1 both_away
unfolding making_index count_of_words
not_in_a_row_without_bells h = let wide : 41 ≡ 64 = h.1.wide in omega (arith, wide)

-- least_at
nothing_before_the_claim : least_at E1 ≡ 0
nothing_before_the_claim = refl

one_after_the_claim : least_at E2 ≡ 1
one_after_the_claim = refl

two_after_the_announcement : least_at E3 ≡ 2
two_after_the_announcement = refl

its_own_spin_word_does_not_count : least_at E4 ≡ 2
its_own_spin_word_does_not_count = refl

three_once_it_has_looked_for_a_rival : least_at E8 ≡ 3
three_once_it_has_looked_for_a_rival = refl

-- least_count
a_place_that_is_idle_made_any_number : least_count 2 Idle ≡ 0
a_place_that_is_idle_made_any_number = refl

three_at_the_level_that_it_won : least_count 2 (Entering 2 E2) ≡ 4
three_at_the_level_that_it_won = refl

three_at_each_level_inside : least_count 2 Inside ≡ 6
three_at_each_level_inside = refl

still_so_on_its_way_out : least_count 2 (Leaving 1 X1) ≡ 6
still_so_on_its_way_out = refl

-- ViewFits
no_count_is_reset_inside : (s : State (std.Option ℕ) (View ℕ)) (x : GlobalView ℕ) (seat : ℕ) → ¬ ViewFits raised 1 s x seat (Seated 0 Inside 7 0)
no_count_is_reset_inside s x seat fits = let least : 3 ≤ 0 = fits.4 in omega (arith, least)

nor_while_it_takes_in_a_pass : (s : State (std.Option ℕ) (View ℕ)) (x : GlobalView ℕ) (seat : ℕ) → ¬ ViewFits raised 1 s x seat (Joining 0 7 1 5 0)
nor_while_it_takes_in_a_pass s x seat fits = let least : 3 ≤ 0 = fits.5 in omega (arith, least)

-- row_length
of_one_level_and_of_two : (row_length 1 ≡ 64) × (row_length 2 ≡ 176)
unfolding making_index count_of_words
of_one_level_and_of_two = (refl, refl)

-- place_of_view
of_a_seated_and_of_a_joining_process :
    (place_of_view {V = ℕ} (Seated 3 Idle 7 0) ≡ some 3) × (place_of_view {V = ℕ} (Joining 2 7 1 5 3) ≡ some 2)
    × (place_of_view {V = ℕ} Spent ≡ none) × (place_of_view {V = ℕ} (HandingOut 1 7) ≡ none)
of_a_seated_and_of_a_joining_process = (refl, refl, refl, refl)

-- GlobalView
what_all_seats_show :
    (both_are_away.seat_of 1 ≡ some 1) × (both_are_away.processes 1 ≡ Idle) × (both_are_away.maker ≡ none) × (both_are_away.content ≡ some 7)
what_all_seats_show = (refl, refl, refl, refl)

-- count_from
a_new_entry_begins_with_none : count_from Idle 9 ≡ 0
a_new_entry_begins_with_none = refl

one_under_way_goes_on_counting : count_from Inside 9 ≡ 9
one_under_way_goes_on_counting = refl

-- count_after
the_claim_of_a_new_entry_counts : count_after 1 0 Idle 9 ≡ 1
the_claim_of_a_new_entry_counts = refl

its_own_spin_word_adds_nothing : count_after 1 0 (Entering 1 E3) 2 ≡ 2
its_own_spin_word_adds_nothing = refl

-- ViewFits
no_place_beyond_the_tree : (s : State (std.Option ℕ) (View ℕ)) (x : GlobalView ℕ) (seat : ℕ) → ¬ ViewFits raised 1 s x seat (Seated 2 Idle 7 0)
no_place_beyond_the_tree s x seat fits = let below : 2 < 2 = fits.5 in omega (arith, below)
