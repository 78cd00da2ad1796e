-- Examples of a process whose caller performs its accesses.
use Rattle.std.proofs.Common.{◌≡◌, ℕ, ◌≤◌, true, false, [], ◌∷◌, Some, None}
use Rattle.std.proofs.Common.{inl, inr, map, refl, arith}
use Rattle.ya_core.specs.declared.word.Word.TheVariants.{C, T, P}
use Rattle.ya_core.specs.declared.word.Access.TheVariants.{Load, Store}
use Rattle.ya_core.specs.declared.process.EntryPoint.TheVariants.{E1, E2, E3, E4, E5, E6, E7, E8, E9, E10}
use Rattle.ya_core.specs.declared.process.ExitPoint.TheVariants.{X1, X2, X3}
use Rattle.ya_core.specs.declared.process.Process.{Process}
use Rattle.ya_core.specs.declared.process.Process.TheVariants.{Idle, Entering, Inside, Leaving}
use Rattle.ya_core.specs.ArbitrationTree.{node_of, side_of, number_of, count_of_words}
use Rattle.ya_core.specs.WalkerModel.{walk, due_of, due, CanStand, cost_of_word, cost_of, walk_after, MayFind, MayBeTold, WalkLeadsTo, BeginsEntry}
use Rattle.ya_core.specs.WalkerModel.{BeginsExit, FitsAccess, FitsDue, op_of_access, op_at_rest, op_of_due, op_of, entry_behind}
use Rattle.ya_core.specs.WalkerModel.{exit_behind, most_of, most_remote, is_waiting, IsEarlierPoint, Advances, AdvancesOrSpins}
use Rattle.ya_core.specs.WalkerModel.{IsWalk, OpIsWithin, AccessIsWithin}
use Rattle.ya_core.specs.declared.process.EntryPoint.{EntryPoint}
use Rattle.ya_core.specs.declared.process.ExitPoint.{ExitPoint}
use Rattle.ya_core.specs.declared.walker.Op.TheVariants as op

-- cost_of_word
its_own_spin_word_costs_nothing : cost_of_word 3 (P 1 3) ≡ 0
its_own_spin_word_costs_nothing = refl

anothers_costs_one : cost_of_word 3 (P 1 2) ≡ 1
anothers_costs_one = refl

of_each_kind : map (cost_of_word 3) (C 1 1 0 ∷ T 1 1 ∷ P 1 3 ∷ P 3 1 ∷ []) ≡ 1 ∷ 1 ∷ 0 ∷ 1 ∷ []
of_each_kind = refl

-- cost_of
a_load_of_its_own_spin_word : cost_of 3 (Load (P 1 3)) ≡ 0
a_load_of_its_own_spin_word = refl

a_store_in_anothers : cost_of 3 (Store (P 1 2) 2) ≡ 1
a_store_in_anothers = refl

a_claim_is_remote : cost_of 3 (Store (C 1 1 1) 4) ≡ 1
a_claim_is_remote = refl

-- CanStand
nil_in_a_claim : CanStand (C 1 1 0) 0
nil_in_a_claim = inl refl

place_2_on_its_side : CanStand (C 1 1 0) 3
unfolding node_of side_of
place_2_on_its_side = inr (omega arith, refl, refl)

place_3_not_on_that_side : ¬ CanStand (C 1 1 0) 4
unfolding node_of side_of
place_3_not_on_that_side (inl nil) = cc
place_3_not_on_that_side (inr h) = let side = h.2 in cc

no_nil_in_a_word_T : ¬ CanStand (T 1 1) 0
no_nil_in_a_word_T h = omega (arith, h.0)

no_3_in_a_spin_word : ¬ CanStand (P 1 2) 3
no_3_in_a_spin_word h = omega (arith, h)

who_can_stand_in_a_claim : CanStand (C 2 1 0) 0 × CanStand (C 2 1 0) 5 × CanStand (C 2 1 0) 6 × CanStand (C 2 1 1) 8 × CanStand (C 1 0 0) 1
unfolding node_of side_of
who_can_stand_in_a_claim =
    (inl refl, inr (omega arith, refl, refl), inr (omega arith, refl, refl), inr (omega arith, refl, refl), inr (omega arith, refl, refl))

not_one_of_another_node : ¬ CanStand (C 2 1 0) 2
unfolding node_of side_of
not_one_of_another_node (inl nil) = cc
not_one_of_another_node (inr h) = let node = h.1 in cc

not_one_of_the_other_side : ¬ CanStand (C 2 1 0) 7
unfolding node_of side_of
not_one_of_the_other_side (inl nil) = cc
not_one_of_the_other_side (inr h) = let side = h.2 in cc

who_can_stand_in_a_word_T : CanStand (T 2 1) 5 × CanStand (T 2 1) 8 × CanStand (T 1 0) 1
unfolding node_of side_of
who_can_stand_in_a_word_T = ((omega arith, refl), (omega arith, refl), (omega arith, refl))

nobody_of_another_node : (¬ CanStand (T 2 1) 4) × (¬ CanStand (T 2 1) 9) × (¬ CanStand (T 2 0) 0)
unfolding node_of side_of
nobody_of_another_node = (λ h. let node = h.1 in cc, λ h. let node = h.1 in cc, λ h. omega (arith, h.0))

no_more_than_2_in_a_spin_word : CanStand (P 1 2) 2
no_more_than_2_in_a_spin_word = omega arith

-- MayFind
a_store_may_be_told_anything : MayFind (Store (P 1 2) 2) 9
a_store_may_be_told_anything = tt

a_load_what_can_stand : ¬ MayFind (Load (P 1 2)) 9
a_load_what_can_stand h = omega (arith, h)

a_load_may_find_what_can_stand : MayFind (Load (P 1 2)) 2
a_load_may_find_what_can_stand = omega arith

-- MayBeTold
no_value_where_nothing_is_due : ¬ MayBeTold None 0
no_value_where_nothing_is_due h = h

one_to_whom_a_load_is_due : MayBeTold (Some (Load (P 1 2))) 2
one_to_whom_a_load_is_due = omega arith

but_nothing_that_cannot_stand : ¬ MayBeTold (Some (Load (P 1 2))) 3
but_nothing_that_cannot_stand h = omega (arith, h)

-- due_of
nothing_is_due_to_one_that_is_idle : due_of 1 0 Idle false ≡ None
nothing_is_due_to_one_that_is_idle = refl

told_to_go_on_it_claims_its_side : due_of 1 0 Idle true ≡ Some (Store (C 1 0 0) 1)
unfolding node_of side_of
told_to_go_on_it_claims_its_side = refl

not_told_to_go_on :
    map (λ (process : Process). due_of 3 7 process false) (Idle ∷ Entering 2 E4 ∷ Inside ∷ Leaving 2 X2 ∷ [])
    ≡ None ∷ Some (Load (C 2 1 0)) ∷ None ∷ Some (Load (T 2 1)) ∷ []
unfolding node_of side_of
not_told_to_go_on = refl

told_to :
    map (λ (process : Process). due_of 3 7 process true) (Idle ∷ Entering 2 E4 ∷ Inside ∷ Leaving 2 X2 ∷ [])
    ≡ Some (Store (C 1 3 1) 8) ∷ Some (Load (C 2 1 0)) ∷ Some (Store (C 3 0 1) 0) ∷ Some (Load (T 2 1)) ∷ []
unfolding node_of side_of
told_to = refl

-- due
on_its_way_it_need_not_be_told : due (walk 1 0 (Entering 1 E10) false 0) ≡ Some (Load (P 1 0))
on_its_way_it_need_not_be_told = refl

-- walk_after
a_remote_access_is_counted : walk_after (walk 1 0 Idle true 0) 0 ≡ walk 1 0 (Entering 1 E2) false 1
unfolding node_of side_of
a_remote_access_is_counted = refl

one_of_its_own_spin_word_is_not : walk_after (walk 1 0 (Entering 1 E10) false 7) 2 ≡ walk 1 0 Inside false 7
one_of_its_own_spin_word_is_not = refl

at_the_second_level_of_three : walk_after (walk 3 7 (Entering 2 E4) true 4) 6 ≡ walk 3 7 (Entering 2 (E5 5)) false 5
unfolding node_of side_of
at_the_second_level_of_three = refl

-- BeginsEntry
an_entry_begins : BeginsEntry (walk 1 0 Idle true 0)
an_entry_begins = record { process = refl; begun = refl; uncounted = refl }

not_before_it_is_told : ¬ BeginsEntry (walk 1 0 Idle false 0)
not_before_it_is_told h = let begun = h.begun in cc

not_from_inside : ¬ BeginsEntry (walk 1 0 Inside true 0)
not_from_inside h = let process = h.process in cc

not_with_a_count : ¬ BeginsEntry (walk 1 0 Idle true 1)
not_with_a_count h = let uncounted = h.uncounted in cc

-- BeginsExit
an_exit_begins : BeginsExit (walk 1 0 Inside true 3)
an_exit_begins = record { process = refl; begun = refl }

not_from_idle : ¬ BeginsExit (walk 1 0 Idle true 3)
not_from_idle h = let process = h.process in cc

not_before_it_is_told_to : ¬ BeginsExit (walk 1 0 Inside false 3)
not_before_it_is_told_to h = let begun = h.begun in cc

-- WalkLeadsTo
alone_three_on_the_way_in : WalkLeadsTo (walk 1 0 Idle true 0) (1 ∷ 1 ∷ 0 ∷ 0 ∷ []) (walk 1 0 Inside false 3)
unfolding node_of side_of
alone_three_on_the_way_in = (tt, (tt, (tt, (inl refl, refl))))

seven_where_it_competes : WalkLeadsTo (walk 1 0 Idle true 0) (1 ∷ 1 ∷ 0 ∷ 2 ∷ 1 ∷ 0 ∷ 1 ∷ 1 ∷ 1 ∷ 2 ∷ []) (walk 1 0 Inside false 7)
unfolding node_of side_of
seven_where_it_competes =
    (tt, (tt, (tt, (inr (omega arith, refl, refl), ((omega arith, refl), (omega arith, (tt, (omega arith, ((omega arith, refl), (omega arith, refl))))))))))

three_more_on_the_way_out : WalkLeadsTo (walk 1 0 Inside true 7) (0 ∷ 2 ∷ 2 ∷ []) (walk 1 0 Idle false 10)
unfolding node_of side_of
three_more_on_the_way_out = (tt, ((omega arith, refl), (tt, refl)))

alone_six_at_two_levels : WalkLeadsTo (walk 2 0 Idle true 0) (1 ∷ 1 ∷ 0 ∷ 0 ∷ 1 ∷ 1 ∷ 0 ∷ 0 ∷ []) (walk 2 0 Inside false 6)
unfolding node_of side_of
alone_six_at_two_levels = (tt, (tt, (tt, (inl refl, (tt, (tt, (tt, (inl refl, refl))))))))

alone_nine_at_three_levels :
    WalkLeadsTo (walk 3 0 Idle true 0) (1 ∷ 1 ∷ 0 ∷ 0 ∷ 1 ∷ 1 ∷ 0 ∷ 0 ∷ 1 ∷ 1 ∷ 0 ∷ 0 ∷ []) (walk 3 0 Inside false 9)
unfolding node_of side_of
alone_nine_at_three_levels = (tt, (tt, (tt, (inl refl, (tt, (tt, (tt, (inl refl, (tt, (tt, (tt, (inl refl, refl))))))))))))

at_the_root_it_finds_one_of_the_other_half : WalkLeadsTo (walk 2 0 (Entering 2 E4) false 5) (3 ∷ []) (walk 2 0 (Entering 2 (E5 2)) false 6)
unfolding node_of side_of
at_the_root_it_finds_one_of_the_other_half = (inr (omega arith, refl, refl), refl)

at_the_root_not_its_neighbour_there : ¬ WalkLeadsTo (walk 2 0 (Entering 2 E4) false 5) (2 ∷ []) (walk 2 0 (Entering 2 (E5 1)) false 6)
unfolding node_of side_of
at_the_root_not_its_neighbour_there (inl nil, rest) = cc
at_the_root_not_its_neighbour_there (inr h, rest) = let side = h.2 in cc

-- FitsAccess
a_load_is_told_what_can_stand : FitsAccess (Some (Load (P 1 2))) 2
a_load_is_told_what_can_stand = omega arith

nothing_else : ¬ FitsAccess (Some (Load (P 1 2))) 3
nothing_else h = omega (arith, h)

a_store_loads_nothing : ¬ FitsAccess (Some (Store (P 1 2) 1)) 1
a_store_loads_nothing h = h

nor_does_one_to_whom_nothing_is_due : ¬ FitsAccess None 1
nor_does_one_to_whom_nothing_is_due h = h

-- FitsDue
a_2_lets_it_in : FitsDue (walk 1 0 (Entering 1 E10) false 0) 2
a_2_lets_it_in = omega arith

no_3_can : ¬ FitsDue (walk 1 0 (Entering 1 E10) false 0) 3
no_3_can h = omega (arith, h)

-- op_of_access
a_load_by_its_number : op_of_access 2 (Load (T 2 0)) ≡ op.Load 8
unfolding number_of
a_load_by_its_number = refl

a_store_by_its_number : op_of_access 2 (Store (P 1 0) 1) ≡ op.Store 9 1
unfolding number_of
a_store_by_its_number = refl

-- op_at_rest
inside_or_idle : map op_at_rest (Inside ∷ Idle ∷ []) ≡ op.Inside ∷ op.Idle ∷ []
inside_or_idle = refl

-- op_of_due
none_is_due : op_of_due 2 Inside None ≡ op.Inside
none_is_due = refl

one_is_due : op_of_due 2 Idle (Some (Load (T 2 0))) ≡ op.Load 8
unfolding number_of
one_is_due = refl

-- op_of
an_idle_walk_asks_for_nothing : op_of (walk 2 1 Idle false 0) ≡ op.Idle
an_idle_walk_asks_for_nothing = refl

until_it_is_told_to_go_on : op_of (walk 2 1 Idle true 0) ≡ op.Store 1 2
unfolding node_of side_of number_of
until_it_is_told_to_go_on = refl

-- entry_behind
the_points_and_the_remote_accesses_behind :
    map entry_behind (E1 ∷ E2 ∷ E3 ∷ E4 ∷ E5 1 ∷ E6 1 ∷ E7 1 ∷ E8 ∷ E9 ∷ E10 ∷ [])
    ≡ (0, 0) ∷ (1, 1) ∷ (2, 2) ∷ (3, 2) ∷ (4, 3) ∷ (5, 4) ∷ (6, 5) ∷ (7, 6) ∷ (8, 6) ∷ (9, 7) ∷ []
the_points_and_the_remote_accesses_behind = refl

-- exit_behind
three_on_the_way_out : map exit_behind (X1 ∷ X2 ∷ X3 1 ∷ []) ≡ 0 ∷ 1 ∷ 2 ∷ []
three_on_the_way_out = refl

-- most_of
none_before_an_entry : map (λ (levels : ℕ). most_of levels Idle true) (1 ∷ 3 ∷ []) ≡ 0 ∷ 0 ∷ []
none_before_an_entry = refl

seven_a_level_in_and_three_out :
    map (λ (process : Process). most_of 3 process false) (Entering 2 E4 ∷ Inside ∷ Leaving 2 X2 ∷ Idle ∷ []) ≡ 9 ∷ 21 ∷ 25 ∷ 30 ∷ []
seven_a_level_in_and_three_out = refl

-- most_remote
nine_at_the_second_level_of_three : most_remote (walk 3 7 (Entering 2 E4) false 4) ≡ 9
nine_at_the_second_level_of_three = refl

-- is_waiting
at_e8_and_e10_alone :
    map is_waiting (Idle ∷ Entering 1 (E7 1) ∷ Entering 1 E8 ∷ Entering 1 E9 ∷ Entering 1 E10 ∷ Inside ∷ Leaving 1 X1 ∷ [])
    ≡ false ∷ false ∷ true ∷ false ∷ true ∷ false ∷ false ∷ []
at_e8_and_e10_alone = refl

-- IsEarlierPoint
by_levels_and_then_by_points : IsEarlierPoint 0 9 1 0 × IsEarlierPoint 1 3 1 4
by_levels_and_then_by_points = (inl (omega arith), inr (refl, omega arith))

not_the_same_and_none_of_a_lower_level : (¬ IsEarlierPoint 1 3 1 3) × (¬ IsEarlierPoint 1 3 0 9)
not_the_same_and_none_of_a_lower_level = (λ h. neither_way 1 3 1 3 h (omega arith) (λ _. omega arith), λ h. neither_way 1 3 0 9 h (omega arith) (λ e. absurd cc))
  where
    neither_way :
        (levels points more next : ℕ) → IsEarlierPoint levels points more next → more ≤ levels
        → (levels ≡ more → next ≤ points) → ⊥
    neither_way levels points more next (inl fewer) least none = omega (arith, fewer, least)
    neither_way levels points more next (inr h) least none = omega (arith, h.1, none h.0)

-- Advances
from_the_way_in_to_no_way_out_nor_back :
    (levels level other : ℕ) (point : EntryPoint) (exit : ExitPoint)
    → (¬ Advances levels (Entering level point) Idle) × (¬ Advances levels (Entering level point) (Leaving other exit))
    × (¬ Advances levels Idle Inside) × (¬ Advances levels Idle (Leaving level exit)) × (¬ Advances levels Idle Idle)
    × (¬ Advances levels Inside Idle) × (¬ Advances levels Inside (Entering level point)) × (¬ Advances levels Inside Inside)
    × (¬ Advances levels (Leaving level exit) Inside) × (¬ Advances levels (Leaving level exit) (Entering other point))
from_the_way_in_to_no_way_out_nor_back levels level other point exit =
    (λ h. h, λ h. h, λ h. h, λ h. h, λ h. h, λ h. h, λ h. h, λ h. h, λ h. h, λ h. h)

-- AdvancesOrSpins
to_the_next_point : AdvancesOrSpins (walk 1 0 (Entering 1 E2) false 1) (walk 1 0 (Entering 1 E3) false 2)
to_the_next_point = inl (inr (refl, omega arith))

to_the_next_level : AdvancesOrSpins (walk 2 0 (Entering 1 E4) false 2) (walk 2 0 (Entering 2 E1) false 3)
to_the_next_level = inl (inl (omega arith))

and_on_the_way_out_to_the_one_below : AdvancesOrSpins (walk 2 0 (Leaving 2 X2) false 6) (walk 2 0 (Leaving 1 X1) false 7)
and_on_the_way_out_to_the_one_below = inl (inl (omega arith))

or_it_waits : AdvancesOrSpins (walk 1 0 (Entering 1 E8) false 6) (walk 1 0 (Entering 1 E8) false 6)
or_it_waits = inr (refl, refl)

no_point_twice_without_waiting : ¬ AdvancesOrSpins (walk 1 0 (Entering 1 E9) false 6) (walk 1 0 (Entering 1 E9) false 7)
no_point_twice_without_waiting (inl (inl fewer)) = omega (arith, fewer)
no_point_twice_without_waiting (inl (inr h)) = omega (arith, h.1)
no_point_twice_without_waiting (inr h) = let waits_there = h.0 in cc

not_back_from_where_it_waits : ¬ AdvancesOrSpins (walk 1 0 (Entering 1 E10) false 6) (walk 1 0 (Entering 1 E8) false 6)
not_back_from_where_it_waits (inl (inl fewer)) = omega (arith, fewer)
not_back_from_where_it_waits (inl (inr h)) = omega (arith, h.1)
not_back_from_where_it_waits (inr h) = let same = h.1 in cc

-- IsWalk
one_of_six_levels : IsWalk (walk 6 63 Idle true 0)
one_of_six_levels = record { least = omega arith; most = omega arith; in_tree = omega arith; proper = tt; counted = omega arith }

one_of_one_level : IsWalk (walk 1 1 Idle true 0)
one_of_one_level = record { least = omega arith; most = omega arith; in_tree = omega arith; proper = tt; counted = omega arith }

none_without_a_level : ¬ IsWalk (walk 0 0 Idle false 0)
none_without_a_level h = omega (arith, h.least)

none_of_seven : ¬ IsWalk (walk 7 0 Idle false 0)
none_of_seven h = omega (arith, h.most)

none_outside_of_the_tree : ¬ IsWalk (walk 1 2 Idle false 0)
none_outside_of_the_tree h = omega (arith, h.in_tree)

none_above_the_top_level : ¬ IsWalk (walk 1 0 (Entering 2 E1) false 0)
none_above_the_top_level h = omega (arith, h.proper.most)

none_that_has_made_too_many_remote_accesses : ¬ IsWalk (walk 1 0 Idle true 1)
none_that_has_made_too_many_remote_accesses h = omega (arith, h.counted)

-- OpIsWithin
the_last_number : OpIsWithin 1 (op.Load 4) × OpIsWithin 1 (op.Store 4 9) × OpIsWithin 1 op.Inside × OpIsWithin 1 op.Idle
unfolding count_of_words
the_last_number = (omega arith, omega arith, tt, tt)

none_behind_it : (¬ OpIsWithin 1 (op.Load 5)) × (¬ OpIsWithin 1 (op.Store 5 0))
unfolding count_of_words
none_behind_it = (λ h. omega (arith, h), λ h. omega (arith, h))

-- AccessIsWithin
a_word_of_the_tree : AccessIsWithin 2 (Load (T 1 1)) × AccessIsWithin 2 (Store (T 1 1) 3)
a_word_of_the_tree = ((omega arith, omega arith, omega arith), (omega arith, omega arith, omega arith))

none_of_another_tree : (¬ AccessIsWithin 1 (Load (T 1 1))) × (¬ AccessIsWithin 1 (Store (T 1 1) 3))
none_of_another_tree = (λ h. omega (arith, h.2), λ h. omega (arith, h.2))

-- Walk
the_parts_of_a_walk :
    ((walk 3 7 Inside true 4).levels ≡ 3) × ((walk 3 7 Inside true 4).place ≡ 7) × ((walk 3 7 Inside true 4).process ≡ Inside)
    × ((walk 3 7 Inside true 4).begun ≡ true) × ((walk 3 7 Inside true 4).remote ≡ 4)
the_parts_of_a_walk = (refl, refl, refl, refl, refl)

-- walk
from_its_parts : walk 3 7 Inside true 4 ≡ record { levels = 3; place = 7; process = Inside; begun = true; remote = 4 }
from_its_parts = refl
