-- Examples of what the rule means at a moment between two steps.
use Rattle.std.proofs.Common.{◌≡◌, ◌≢◌, ℕ, zero, suc, ◌≤◌, inl, inr, List, [], ◌∷◌, ◌++◌, ◌∙◌, refl, sym, ap, subst, arith, None, Some, replicate, set}
use Rattle.std.specs.Prelude as std
use Rattle.std.specs.Prelude.{IsTrue, ◌-◌}
use mathlib.Core.Option.{Option, none, some, some-injective, some-ne-none}
use lib.ListN.{get_elem?}
use Rattle.atomic_table.specs.Table.{State}
use Rattle.ya_core.specs.declared.word.Word.{Word}
use Rattle.ya_core.specs.declared.word.Word.TheVariants.{C}
use Rattle.ya_core.specs.declared.process.EntryPoint.TheVariants.{E8}
use Rattle.ya_core.specs.declared.process.Process.{Process}
use Rattle.ya_core.specs.declared.process.Process.TheVariants.{Idle, Entering, Inside}
use Rattle.ya_core.specs.ArbitrationTree.{node_of, side_of, number_of, count_of_words}
use Rattle.ya_core.specs.Soundness.{IsSoundState, claims, phase_of}
use Rattle.ya_core.proofs.Promised.{opens}
use Rattle.ya_lock.specs.declared.rule.View.{View}
use Rattle.ya_lock.specs.declared.rule.View.TheVariants.{Unused, Making, Filling, HandingOut, Seated, Watching, Owes, Joining, Spent}
use Rattle.ya_lock.specs.Rule.{index_of, making_index, words_in}
use Rattle.ya_lock.specs.LockState.{IsOf, IsFilling, IsMaking, HasProcess, IsAway, NoneInside, ShowsCore, GoesOn, SomeSeatGoesOn}
use Rattle.ya_lock.specs.LockState.{EachInTree, OneSeatAPlace, OneInside, IsToMake, IsGiven, IsInSlot, IsFresh, IsMadeByOne, IsLockState}
use Rattle.ya_lock.proofs.WordsInRow.{words_zero, words_behind}

-- IsOf
a_place_away_has_seen_a_value : IsOf {V = ℕ} (Seated 1 (Entering 1 E8) 5 4) 1 (Entering 1 E8) 5
a_place_away_has_seen_a_value = (refl, refl, refl)

one_that_has_joined_another_is_inside : IsOf {V = ℕ} (Joining 0 7 1 5 3) 0 Inside 7
one_that_has_joined_another_is_inside = (refl, refl, refl)

an_unused_seat_has_no_process : ¬ IsOf {V = ℕ} Unused 0 Idle 7
an_unused_seat_has_no_process h = h

-- IsFilling
with_the_empty_slot : IsFilling {V = ℕ} Filling
with_the_empty_slot = tt

no_more_once_it_gave_the_value : ¬ IsFilling {V = ℕ} (HandingOut 0 7)
no_more_once_it_gave_the_value h = h

-- IsMaking
while_it_hands_out_the_passes : IsMaking {V = ℕ} (HandingOut 1 7)
while_it_hands_out_the_passes = tt

a_seated_process_makes_none : ¬ IsMaking {V = ℕ} (Seated 0 Idle 7 0)
a_seated_process_makes_none h = h

-- three states of a table of one level with every word of the tree 0: both places are away; place 0 is inside and place
-- 1 waits; place 1 waits and no place is inside
abbrev moment : List (Option (std.Option ℕ)) → List (View ℕ) → State (std.Option ℕ) (View ℕ)
moment homes views = record { words = set (replicate 41 0) (making_index 1) 1; homes = homes; views = views }

abbrev pub both_away : State (std.Option ℕ) (View ℕ)
both_away = moment (some (Some 7) ∷ []) (Seated 0 Idle 7 0 ∷ Seated 1 Idle 5 0 ∷ [])

abbrev pub one_inside : State (std.Option ℕ) (View ℕ)
one_inside = moment (none ∷ []) (Seated 0 Inside 7 3 ∷ Seated 1 (Entering 1 E8) 5 4 ∷ [])

abbrev stuck : State (std.Option ℕ) (View ℕ)
stuck = moment (some (Some 7) ∷ []) (Seated 1 (Entering 1 E8) 5 4 ∷ [])

abbrev two_inside : State (std.Option ℕ) (View ℕ)
two_inside = moment (none ∷ []) (Seated 0 Inside 7 3 ∷ Seated 1 Inside 7 4 ∷ [])

-- place 1 is away, in seat 0, and the value is not in its slot
abbrev first_seat_away : State (std.Option ℕ) (View ℕ)
first_seat_away = moment (none ∷ []) (Seated 1 Idle 7 0 ∷ [])

-- HasProcess
seat_1_has_place_1 : HasProcess one_inside 1 1 (Entering 1 E8) 5
seat_1_has_place_1 = (Seated 1 (Entering 1 E8) 5 4, refl, (refl, refl, refl))

there_is_no_seat_2 : ¬ HasProcess one_inside 2 0 Idle 7
there_is_no_seat_2 h = some-ne-none h.0 (sym h.1)

-- IsAway
place_1_is : IsAway one_inside 1 1 5
place_1_is = (Entering 1 E8, λ same. cc, seat_1_has_place_1)

in_another_seat_it_is : IsAway first_seat_away 0 1 7
in_another_seat_it_is = (Idle, λ same. cc, (Seated 1 Idle 7 0, refl, (refl, refl, refl)))

-- the seat has this view
is_view : (s : State (std.Option ℕ) (View ℕ)) (seat : ℕ) (view : View ℕ) (place : ℕ) (process : Process) (value : ℕ)
    → (has : HasProcess s seat place process value) → get_elem? s.views seat ≡ some view → IsOf view place process value
is_view s seat view place process value has found =
    subst (λ v. IsOf v place process value) (some-injective has.0 view (sym has.1 ∙ found)) has.2

place_0_is_not : ¬ IsAway one_inside 0 0 7
place_0_is_not (process, away, has) =
    let is = is_view one_inside 0 (Seated 0 Inside 7 3) 0 process 7 has refl in away (sym is.1)

-- the only processes and values of the seats if both places are away
away_both : (seat place : ℕ) (process : Process) (value : ℕ) → HasProcess both_away seat place process value
    → (seat ≡ place) × (Idle ≡ process) × (value ≤ 7)
away_both zero place process value has =
    let is = is_view both_away 0 (Seated 0 Idle 7 0) place process value has refl in (is.0, is.1, omega (arith, is.2))
away_both (suc zero) place process value has =
    let is = is_view both_away 1 (Seated 1 Idle 5 0) place process value has refl in (is.0, is.1, omega (arith, is.2))
away_both (suc (suc seat)) place process value has = absurd (some-ne-none has.0 (sym has.1))

-- NoneInside
pub none_where_both_are_away : NoneInside both_away
none_where_both_are_away seat place value has = let idle = (away_both seat place Inside value has).1 in cc

one_is : ¬ NoneInside one_inside
one_is h = h 0 0 7 (Seated 0 Inside 7 3, refl, (refl, refl, refl))

-- GoesOn
an_idle_process_goes_on : GoesOn both_away 1 0 Idle
unfolding node_of side_of
an_idle_process_goes_on same = cc

one_that_waits_for_a_1_does_not : ¬ GoesOn stuck 1 1 (Entering 1 E8)
unfolding words_in index_of number_of making_index count_of_words
one_that_waits_for_a_1_does_not goes_on = goes_on refl

-- place 0 waits, and its spin word was set to 1
abbrev woken : State (std.Option ℕ) (View ℕ)
woken = record { words = replicate 24 0 ++ 1 ∷ replicate 16 0; homes = some (Some 7) ∷ []; views = Seated 0 (Entering 1 E8) 5 4 ∷ [] }

-- GoesOn
one_whose_word_is_1_does : GoesOn woken 1 0 (Entering 1 E8)
unfolding words_in index_of number_of
one_whose_word_is_1_does same = cc

-- SomeSeatGoesOn
nobody_takes_part : SomeSeatGoesOn both_away 1
nobody_takes_part seat place process value has busy = absurd (busy (sym (away_both seat place process value has).1))

one_that_waits_for_nobody : ¬ SomeSeatGoesOn stuck 1
one_that_waits_for_nobody h =
    let found = h 0 1 (Entering 1 E8) 5 (Seated 1 (Entering 1 E8) 5 4, refl, (refl, refl, refl)) (λ same. cc) in
    alone found.0 found.1 found.2.0 found.2.1.0 found.2.1.1 found.2.1.3
  where
    alone : (seat place : ℕ) (process : Process) (value : ℕ) → HasProcess stuck seat place process value → ¬ GoesOn stuck 1 place process
    alone zero place process value has goes_on =
        let is = is_view stuck 0 (Seated 1 (Entering 1 E8) 5 4) place process value has refl in
        one_that_waits_for_a_1_does_not (subst (GoesOn stuck 1 1) (sym is.1) (subst (λ q. GoesOn stuck 1 q process) (sym is.0) goes_on))
    alone (suc seat) place process value has goes_on = some-ne-none has.0 (sym has.1)

-- the same, with place 0 away
abbrev stuck_beside_one_away : State (std.Option ℕ) (View ℕ)
stuck_beside_one_away = moment (some (Some 7) ∷ []) (Seated 1 (Entering 1 E8) 5 4 ∷ Seated 0 Idle 7 0 ∷ [])

one_that_is_away_does_not_count : ¬ SomeSeatGoesOn stuck_beside_one_away 1
one_that_is_away_does_not_count h =
    let found = h 0 1 (Entering 1 E8) 5 (Seated 1 (Entering 1 E8) 5 4, refl, (refl, refl, refl)) (λ same. cc) in
    nobody_else found.0 found.1 found.2.0 found.2.1.0 found.2.1.1 found.2.1.2 found.2.1.3
  where
    nobody_else : (seat place : ℕ) (process : Process) (value : ℕ) → HasProcess stuck_beside_one_away seat place process value
        → process ≢ Idle → ¬ GoesOn stuck_beside_one_away 1 place process
    nobody_else zero place process value has busy goes_on =
        let is = is_view stuck_beside_one_away 0 (Seated 1 (Entering 1 E8) 5 4) place process value has refl in
        one_that_waits_for_a_1_does_not (subst (GoesOn stuck 1 1) (sym is.1) (subst (λ q. GoesOn stuck 1 q process) (sym is.0) goes_on))
    nobody_else (suc zero) place process value has busy goes_on =
        let is = is_view stuck_beside_one_away 1 (Seated 0 Idle 7 0) place process value has refl in busy (sym is.1)
    nobody_else (suc (suc seat)) place process value has busy goes_on = some-ne-none has.0 (sym has.1)

-- OneSeatAPlace
each_has_its_own : OneSeatAPlace both_away
each_has_its_own one other place x y v w a b = (away_both one place x v a).0 ∙ sym (away_both other place y w b).0

-- EachInTree
each_in_the_tree : EachInTree both_away 1
each_in_the_tree zero place process value has =
    let is = is_view both_away 0 (Seated 0 Idle 7 0) place process value has refl in omega (arith, is.0)
each_in_the_tree (suc zero) place process value has =
    let is = is_view both_away 1 (Seated 1 Idle 5 0) place process value has refl in omega (arith, is.0)
each_in_the_tree (suc (suc seat)) place process value has = absurd (some-ne-none has.0 (sym has.1))

no_idle_place_beyond_it : ¬ EachInTree (moment (some (Some 7) ∷ []) (Seated 2 Idle 7 0 ∷ [])) 1
no_idle_place_beyond_it h =
    let below = h 0 2 Idle 7 (Seated 2 Idle 7 0, refl, (refl, refl, refl)) in omega (arith, below)

-- OneSeatAPlace
not_two_of_place_0 : ¬ OneSeatAPlace (moment (some (Some 7) ∷ []) (Seated 0 Idle 7 0 ∷ Seated 0 Idle 7 0 ∷ []))
not_two_of_place_0 h =
    let same = h 0 1 0 Idle Idle 7 7 (Seated 0 Idle 7 0, refl, (refl, refl, refl)) (Seated 0 Idle 7 0, refl, (refl, refl, refl)) in omega (arith, same)

-- OneInside
none_inside : OneInside both_away
none_inside one other p q v w a b = absurd (none_where_both_are_away one p v a)

not_two : ¬ OneInside two_inside
not_two h = let same = h 0 1 0 1 7 7 (Seated 0 Inside 7 3, refl, (refl, refl, refl)) (Seated 1 Inside 7 4, refl, (refl, refl, refl)) in omega (arith, same)

not_two_that_found_two_values : ¬ OneInside (moment (none ∷ []) (Seated 0 Inside 7 3 ∷ Seated 1 Inside 8 4 ∷ []))
not_two_that_found_two_values h =
    let same = h 0 1 0 1 7 8 (Seated 0 Inside 7 3, refl, (refl, refl, refl)) (Seated 1 Inside 8 4, refl, (refl, refl, refl)) in omega (arith, same)

-- no seat makes passes if both places are away
no_maker : (seat : ℕ) (view : View ℕ) → get_elem? both_away.views seat ≡ some view → ¬ IsMaking view
no_maker zero view at making = subst IsMaking (sym (some-injective (Seated 0 Idle 7 0) view at)) making
no_maker (suc zero) view at making = subst IsMaking (sym (some-injective (Seated 1 Idle 5 0) view at)) making
no_maker (suc (suc seat)) view at making = some-ne-none view (sym at)

-- seat 0 has given 7 and made the pass of place 0, and is still to make that of place 1
abbrev half_made : List (Option (std.Option ℕ)) → State (std.Option ℕ) (View ℕ)
half_made homes = moment homes (HandingOut 1 7 ∷ Seated 0 Idle 7 0 ∷ [])

-- no pass was made yet
abbrev just_given : List (Option (std.Option ℕ)) → State (std.Option ℕ) (View ℕ)
just_given homes = moment homes (HandingOut 0 7 ∷ [])

-- IsToMake
the_pass_of_place_1 : IsToMake (half_made (none ∷ [])) 0 1 7
the_pass_of_place_1 = (1, refl, omega arith)

-- the seat still makes only passes of places from its view's first one on
to_make_by : (s : State (std.Option ℕ) (View ℕ)) (seat place given first value : ℕ) → get_elem? s.views seat ≡ some (HandingOut first value)
    → IsToMake s seat place given → first ≤ place
to_make_by s seat place given first value at (other, there, far) =
    let same : HandingOut other given ≡ HandingOut first value = some-injective _ _ (sym there ∙ at) in
    let one : other ≡ first = cc in omega (arith, one, far)

not_that_of_place_0_once_it_was_made : ¬ IsToMake (half_made (none ∷ [])) 0 0 7
not_that_of_place_0_once_it_was_made h =
    let far : 1 ≤ 0 = to_make_by (half_made (none ∷ [])) 0 0 7 1 7 refl h in omega (arith, far)

none_where_both_were_made : (seat place given : ℕ) → ¬ IsToMake both_away seat place given
none_where_both_were_made seat place given (first, at, far) = no_maker seat (HandingOut first given) at tt

-- IsGiven
once_it_was_given : IsGiven (just_given (none ∷ []))
once_it_was_given = (0, 0, (7, inr (0, refl, omega arith)))

once_one_is_inside : IsGiven one_inside
once_one_is_inside = (0, 0, (7, inl (Inside, (Seated 0 Inside 7 3, refl, (refl, refl, refl)))))

once_a_pass_was_made : IsGiven first_seat_away
once_a_pass_was_made = (0, 1, (7, inl (Idle, (Seated 1 Idle 7 0, refl, (refl, refl, refl)))))

not_while_it_is_being_put_there : ¬ IsGiven (moment (none ∷ []) (Filling ∷ []))
not_while_it_is_being_put_there (zero, place, (value, inl (process, has))) =
    is_view (moment (none ∷ []) (Filling ∷ [])) 0 Filling place process value has refl
not_while_it_is_being_put_there (suc seat, place, (value, inl (process, has))) = some-ne-none has.0 (sym has.1)
not_while_it_is_being_put_there (zero, place, (value, inr (first, at, far))) =
    let same : Filling ≡ HandingOut first value = some-injective _ _ at in cc
not_while_it_is_being_put_there (suc seat, place, (value, inr (first, at, far))) = some-ne-none (HandingOut first value) (sym at)

-- IsInSlot
in_slot_where_both_are_away : IsInSlot both_away
in_slot_where_both_are_away = (λ seat place value has. absurd (none_where_both_are_away seat place value has), λ given away. (7, refl))

out_where_one_is_inside : IsInSlot one_inside
out_where_one_is_inside = (λ seat place value has. refl, λ given away. absurd (one_is away))

not_in_slot_where_one_is : ¬ IsInSlot (moment (some (Some 7) ∷ []) one_inside.views)
not_in_slot_where_one_is h = let out = h.0 0 0 7 (Seated 0 Inside 7 3, refl, (refl, refl, refl)) in cc

not_out_where_none_is : ¬ IsInSlot (moment (none ∷ []) both_away.views)
not_out_where_none_is h =
    let home = h.1 (0, 0, (7, inl (Idle, (Seated 0 Idle 7 0, refl, (refl, refl, refl))))) none_where_both_are_away in
    let out = home.1 in cc

nobody_inside_there : NoneInside first_seat_away
nobody_inside_there zero place value has =
    let is = is_view first_seat_away 0 (Seated 1 Idle 7 0) place Inside value has refl in let idle : Idle ≡ Inside = is.1 in cc
nobody_inside_there (suc seat) place value has = some-ne-none has.0 (sym has.1)

not_out_where_only_place_1_has_a_seat : ¬ IsInSlot first_seat_away
not_out_where_only_place_1_has_a_seat h =
    let home = h.1 once_a_pass_was_made nobody_inside_there in let out = home.1 in cc

nobody_inside_before_a_pass : NoneInside (just_given (none ∷ []))
nobody_inside_before_a_pass zero place value has = is_view (just_given (none ∷ [])) 0 (HandingOut 0 7) place Inside value has refl
nobody_inside_before_a_pass (suc seat) place value has = some-ne-none has.0 (sym has.1)

not_out_before_any_pass_was_made : ¬ IsInSlot (just_given (none ∷ []))
not_out_before_any_pass_was_made h = let home = h.1 once_it_was_given nobody_inside_before_a_pass in let out = home.1 in cc

-- the changes that others may make to a number while a place is away
abbrev pub raised : ℕ → ℕ → ℕ → Type 0
raised place seen now = seen ≤ now

-- IsFresh
raised_since_it_was_seen : IsFresh both_away raised
raised_since_it_was_seen seat place seen now (inl away) = (
  λ home. let same : 7 ≡ now = cc in let seen_of = (away_both seat place away.0 seen away.2).2 in omega (arith, same, seen_of),
  λ one other has. absurd (none_where_both_are_away one other now has),
)
raised_since_it_was_seen seat place seen now (inr made) = absurd (none_where_both_were_made seat place seen made)

not_lowered : ¬ IsFresh (moment (some (Some 4) ∷ []) both_away.views) raised
not_lowered h =
    let fresh = (h 1 1 5 4 (inl (Idle, λ same. cc, (Seated 1 Idle 5 0, refl, (refl, refl, refl))))).0 refl in omega (arith, fresh)

not_below_what_was_given_where_no_pass_was_made : ¬ IsFresh (just_given (some (Some 4) ∷ [])) raised
not_below_what_was_given_where_no_pass_was_made h =
    let fresh = (h 0 0 7 4 (inr (0, refl, omega arith))).0 refl in omega (arith, fresh)

not_below_what_one_inside_found : ¬ IsFresh (moment (none ∷ []) (Seated 0 Inside 4 3 ∷ Seated 1 Idle 5 0 ∷ [])) raised
not_below_what_one_inside_found h =
    let away = h 1 1 5 4 (inl (Idle, λ same. cc, (Seated 1 Idle 5 0, refl, (refl, refl, refl)))) in
    let fresh = away.1 0 0 (Seated 0 Inside 4 3, refl, (refl, refl, refl)) in omega (arith, fresh)

-- the changes that others may make to it while place 1 is away
abbrev raised_without_1 : ℕ → ℕ → ℕ → Type 0
raised_without_1 place seen now = place ≡ 1 → seen ≤ now

not_lowered_for_place_1_in_seat_0 : ¬ IsFresh (moment (some (Some 4) ∷ []) (Seated 1 Idle 5 0 ∷ [])) raised_without_1
not_lowered_for_place_1_in_seat_0 h =
    let fresh = (h 0 1 5 4 (inl (Idle, λ same. cc, (Seated 1 Idle 5 0, refl, (refl, refl, refl))))).0 refl refl in omega (arith, fresh)

nor_below_what_one_in_seat_1_found : ¬ IsFresh (moment (none ∷ []) (Seated 1 Idle 5 0 ∷ Seated 0 Inside 4 3 ∷ [])) raised_without_1
nor_below_what_one_in_seat_1_found h =
    let away = h 0 1 5 4 (inl (Idle, λ same. cc, (Seated 1 Idle 5 0, refl, (refl, refl, refl)))) in
    let fresh = away.1 1 0 (Seated 0 Inside 4 3, refl, (refl, refl, refl)) refl in omega (arith, fresh)

filling_is_making : (view : View ℕ) → IsFilling view → IsMaking view
filling_is_making Making filling = tt
filling_is_making Filling filling = tt
filling_is_making Unused filling = absurd filling
filling_is_making (HandingOut first value) filling = tt
filling_is_making (Seated place process value count) filling = absurd filling
filling_is_making (Watching place process value count) filling = absurd filling
filling_is_making (Owes place process value count rival) filling = absurd filling
filling_is_making (Joining place value other seen count) filling = absurd filling
filling_is_making Spent filling = absurd filling

-- IsMadeByOne
all_passes_made : IsMadeByOne both_away 1
unfolding making_index count_of_words
all_passes_made = record {
  unused = λ unmade. let none : 1 ≡ 0 = unmade in absurd (omega (arith, none));
  empty = λ unmade. let none : 1 ≡ 0 = unmade in absurd (omega (arith, none));
  one_maker = λ one other v w at making there also. absurd (no_maker one v at making);
  unfilled = λ seat view at filling. absurd (no_maker seat view at (filling_is_making view filling));
  not_made = λ seat first given at. absurd (no_maker seat (HandingOut first given) at tt);
}

not_by_two : ¬ IsMadeByOne (moment (some None ∷ []) (Making ∷ Making ∷ [])) 1
not_by_two h = let same = h.one_maker 0 1 Making Making refl tt refl tt in omega (arith, same)

not_by_two_of_which_one_hands_out : ¬ IsMadeByOne (moment (some None ∷ []) (Making ∷ HandingOut 1 7 ∷ [])) 1
not_by_two_of_which_one_hands_out h = let same = h.one_maker 0 1 Making (HandingOut 1 7) refl tt refl tt in omega (arith, same)

-- a table whose passes have not been begun
abbrev pub unmade : State (std.Option ℕ) (View ℕ)
unmade = record { words = replicate 41 0; homes = some None ∷ []; views = Unused ∷ [] }

all_unused : (seat : ℕ) (view : View ℕ) → get_elem? unmade.views seat ≡ some view → view ≡ Unused
all_unused zero view at = sym (some-injective Unused view at)
all_unused (suc seat) view at = absurd (some-ne-none view (sym at))

-- IsMadeByOne
before_they_are_made : IsMadeByOne unmade 1
unfolding making_index count_of_words
before_they_are_made = record {
  unused = λ word seat view at. all_unused seat view at;
  empty = λ word. refl;
  one_maker = λ one other v w at making there also. absurd (subst IsMaking (all_unused one v at) making);
  unfilled = λ seat view at filling. absurd (subst IsFilling (all_unused seat view at) filling);
  not_made = λ seat first given at. let none = all_unused seat (HandingOut first given) at in cc;
}

not_with_a_value_before : ¬ IsMadeByOne {V = ℕ} (record { words = replicate 41 0; homes = some (Some 7) ∷ []; views = [] }) 1
unfolding making_index count_of_words
not_with_a_value_before h = let empty = h.empty refl in cc

-- seat 0 makes the passes, and seat 1 is unused
abbrev being_made : State (std.Option ℕ) (View ℕ)
being_made = moment (some None ∷ []) (Making ∷ Unused ∷ [])

nobody_has_a_place_yet : (seat place : ℕ) (process : Process) (value : ℕ) → ¬ HasProcess being_made seat place process value
nobody_has_a_place_yet zero place process value has = is_view being_made 0 Making place process value has refl
nobody_has_a_place_yet (suc zero) place process value has = is_view being_made 1 Unused place process value has refl
nobody_has_a_place_yet (suc (suc seat)) place process value has = some-ne-none has.0 (sym has.1)

first_makes : (seat : ℕ) (view : View ℕ) → get_elem? being_made.views seat ≡ some view → IsMaking view → seat ≡ 0
first_makes zero view at making = refl
first_makes (suc zero) view at making = absurd (subst IsMaking (sym (some-injective Unused view at)) making)
first_makes (suc (suc seat)) view at making = absurd (some-ne-none view (sym at))

-- IsMadeByOne
one_makes_them : IsMadeByOne being_made 1
unfolding making_index count_of_words
one_makes_them = record {
  unused = λ word. let none : 1 ≡ 0 = word in absurd (omega (arith, none));
  empty = λ word. refl;
  one_maker = λ one other v w at making there also. first_makes one v at making ∙ sym (first_makes other w there also);
  unfilled = λ seat view at filling other place process value. nobody_has_a_place_yet other place process value;
  not_made = λ seat first given at other place process value behind. nobody_has_a_place_yet other place process value;
}

nobody_has_a_place_while_it_is_filled : ¬ IsMadeByOne (moment (some None ∷ []) (Filling ∷ Seated 0 Idle 7 0 ∷ [])) 1
nobody_has_a_place_while_it_is_filled h = h.unfilled 0 Filling refl tt 1 0 Idle 7 (Seated 0 Idle 7 0, refl, (refl, refl, refl))

nobody_knows_anything_before : ¬ IsMadeByOne {V = ℕ} (record { words = replicate 41 0; homes = some None ∷ []; views = Seated 0 Idle 7 0 ∷ [] }) 1
unfolding making_index count_of_words
nobody_knows_anything_before h = let unused = h.unused refl 0 (Seated 0 Idle 7 0) refl in cc

no_pass_that_is_still_to_be_made : ¬ IsMadeByOne (moment (some (Some 7) ∷ []) (HandingOut 1 7 ∷ Seated 1 Idle 7 0 ∷ [])) 1
no_pass_that_is_still_to_be_made h =
    h.not_made 0 1 7 refl 1 1 Idle 7 (omega arith) (Seated 1 Idle 7 0, refl, (refl, refl, refl))

no_pass_that_another_seat_is_still_to_make : ¬ IsMadeByOne (moment (some (Some 7) ∷ []) (Seated 1 Idle 7 0 ∷ Unused ∷ HandingOut 1 7 ∷ [])) 1
no_pass_that_another_seat_is_still_to_make h =
    h.not_made 2 1 7 refl 0 1 Idle 7 (omega arith) (Seated 1 Idle 7 0, refl, (refl, refl, refl))

-- ShowsCore
all_idle : ShowsCore both_away 1
all_idle = (
  λ place. Idle,
  subst (λ (words : Word → ℕ). IsSoundState 1 record { words = words; processes = λ place. Idle })
      (sym (words_behind 1 (making_index 1) (replicate 41 0) 1 (omega arith) ∙ words_zero 1 41)) (opens 1),
  λ seat place process value has. (away_both seat place process value has).1,
  λ place none. refl,
)

not_two_of_the_core : ¬ ShowsCore (moment (some (Some 7) ∷ []) (Seated 0 Idle 7 0 ∷ Seated 0 Inside 7 0 ∷ [])) 1
not_two_of_the_core h =
    let first = h.2 0 0 Idle 7 (Seated 0 Idle 7 0, refl, (refl, refl, refl)) in
    let second = h.2 1 0 Inside 7 (Seated 0 Inside 7 0, refl, (refl, refl, refl)) in
    let both : Idle ≡ Inside = sym first ∙ second in cc

-- an exchange of the root's word alone leads to no such state
not_inside_without_its_claim : ¬ ShowsCore one_inside 1
not_inside_without_its_claim (processes, sound, shown, idle) =
    let inside : processes 0 ≡ Inside = shown 0 0 Inside 7 (Seated 0 Inside 7 3, refl, (refl, refl, refl)) in
    let own : Word = C 1 (node_of 1 0) (side_of 1 0) in
    let claim : words_in 1 one_inside.words own ≡ 1 =
    (sound.sound 1 (omega arith) (omega arith)).claimed 0
    (subst (λ process. IsTrue (claims (phase_of 1 1 process))) (sym inside) refl) in
    let nil = words_behind 1 (making_index 1) (replicate 41 0) 1 (omega arith) ∙ words_zero 1 41 in
    let zero : words_in 1 one_inside.words own ≡ 0 = ap (λ (words : Word → ℕ). words own) nil in omega (arith, claim, zero)

-- a word C names place 1, and no seat has the process of place 1
abbrev claimed : State (std.Option ℕ) (View ℕ)
claimed = record { words = replicate 8 0 ++ 2 ∷ replicate 32 0; homes = some (Some 7) ∷ []; views = Seated 0 Idle 7 0 ∷ [] }

nobody_has_place_1 : (seat : ℕ) (process : Process) (value : ℕ) → ¬ HasProcess claimed seat 1 process value
nobody_has_place_1 zero process value has =
    let is = is_view claimed 0 (Seated 0 Idle 7 0) 1 process value has refl in omega (arith, is.0)
nobody_has_place_1 (suc seat) process value has = some-ne-none has.0 (sym has.1)

no_claim_of_a_place_without_a_view : ¬ ShowsCore claimed 1
unfolding words_in index_of number_of
no_claim_of_a_place_without_a_view (processes, sound, shown, idle) =
    let away : processes 1 ≡ Idle = idle 1 nobody_has_place_1 in
    let claimant = (sound.sound 1 (omega arith) (omega arith)).claimant 0 1 1 refl in
    let named = subst (λ process. IsTrue (claims (phase_of 1 1 process))) away claimant.2 in cc

-- IsLockState
where_both_are_away : IsLockState raised 1 both_away
where_both_are_away = record {
  core = all_idle;
  progress = nobody_takes_part;
  in_tree = each_in_the_tree;
  places = each_has_its_own;
  exclusion = none_inside;
  value = in_slot_where_both_are_away;
  fresh = raised_since_it_was_seen;
  making = all_passes_made;
}

not_where_two_are_inside : ¬ IsLockState raised 1 two_inside
not_where_two_are_inside h = not_two h.exclusion

-- NoneInside
no_seat_has_one_inside : (s : State (std.Option ℕ) (View ℕ)) → NoneInside s → (seat place value : ℕ) → ¬ HasProcess s seat place Inside value
no_seat_has_one_inside s h = h
