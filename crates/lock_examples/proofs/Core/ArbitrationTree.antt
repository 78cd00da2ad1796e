-- Examples of the arbitration tree and of its words in one flat row.
use Rattle.std.proofs.Common.{◌≡◌, ◌+◌, true, false, List, [], ◌∷◌}
use Rattle.std.proofs.Common.{map, refl, arith}
use Rattle.ya_core.specs.declared.limits.TheConstants.{MAX_LEVELS}
use Rattle.ya_core.specs.declared.word.Word.{Word}
use Rattle.ya_core.specs.declared.word.Word.TheVariants.{C, T, P}
use Rattle.ya_core.specs.declared.process.Process.TheVariants.{Inside}
use Rattle.ya_core.specs.ArbitrationTree.{node_of, side_of, nodes_below, number_of, count_of_words, HasShape, Rivals, AreRivals, IsWord}
use Rattle.ya_core.specs.FlatRow.{is_word, words_of, row_state}

-- node_of
two_neighbours_share_a_leaf : node_of 1 2 ≡ node_of 1 3
unfolding node_of
two_neighbours_share_a_leaf = refl

one_node_at_the_root : node_of 2 0 ≡ node_of 2 3
unfolding node_of
one_node_at_the_root = refl

eight_places_below_a_node_of_level_3 : map (node_of 3) (0 ∷ 7 ∷ 8 ∷ 15 ∷ 16 ∷ 47 ∷ []) ≡ 0 ∷ 0 ∷ 1 ∷ 1 ∷ 2 ∷ 5 ∷ []
unfolding node_of
eight_places_below_a_node_of_level_3 = refl

-- side_of
on_two_sides_of_the_leaf : side_of 1 3 ≡ 1
unfolding side_of
on_two_sides_of_the_leaf = refl

on_one_side_of_the_root : side_of 2 3 ≡ side_of 2 2
unfolding side_of
on_one_side_of_the_root = refl

four_places_on_each_side_there : map (side_of 3) (0 ∷ 3 ∷ 4 ∷ 7 ∷ 8 ∷ 11 ∷ 12 ∷ 15 ∷ []) ≡ 0 ∷ 0 ∷ 1 ∷ 1 ∷ 0 ∷ 0 ∷ 1 ∷ 1 ∷ []
unfolding side_of
four_places_on_each_side_there = refl

-- nodes_below
no_level_is_below_the_leaves : nodes_below 2 1 ≡ 0
no_level_is_below_the_leaves = refl

two_leaves_below_the_root : nodes_below 2 2 ≡ 2
two_leaves_below_the_root = refl

of_three_levels : map (nodes_below 3) (1 ∷ 2 ∷ 3 ∷ []) ≡ 0 ∷ 4 ∷ 6 ∷ []
of_three_levels = refl

-- the words of a tree of two levels, in their order
abbrev words_of_two_levels : List Word
words_of_two_levels =
    C 1 0 0 ∷ C 1 0 1 ∷ C 1 1 0 ∷ C 1 1 1 ∷ C 2 0 0 ∷ C 2 0 1 ∷ T 1 0 ∷ T 1 1 ∷ T 2 0
    ∷ P 1 0 ∷ P 1 1 ∷ P 1 2 ∷ P 1 3 ∷ P 2 0 ∷ P 2 1 ∷ P 2 2 ∷ P 2 3 ∷ []

-- number_of
the_root_comes_behind_the_leaves : number_of 2 (C 2 0 1) ≡ 5
unfolding number_of
the_root_comes_behind_the_leaves = refl

words_T_behind_words_C : number_of 2 (T 1 0) ≡ 6
unfolding number_of
words_T_behind_words_C = refl

words_P_behind_words_T : number_of 2 (P 1 0) ≡ 9
unfolding number_of
words_P_behind_words_T = refl

the_last_word : number_of 2 (P 2 3) ≡ 16
unfolding number_of
the_last_word = refl

each_at_its_number : map (number_of 2) words_of_two_levels ≡ 0 ∷ 1 ∷ 2 ∷ 3 ∷ 4 ∷ 5 ∷ 6 ∷ 7 ∷ 8 ∷ 9 ∷ 10 ∷ 11 ∷ 12 ∷ 13 ∷ 14 ∷ 15 ∷ 16 ∷ []
unfolding number_of
each_at_its_number = refl

some_of_each_kind_at_three_levels :
    map (number_of 3) (C 2 0 0 ∷ C 3 0 1 ∷ T 2 0 ∷ T 3 0 ∷ P 2 0 ∷ P 3 7 ∷ []) ≡ 8 ∷ 13 ∷ 18 ∷ 20 ∷ 29 ∷ 44 ∷ []
unfolding number_of
some_of_each_kind_at_three_levels = refl

-- count_of_words
seventeen_words : count_of_words 2 ≡ 17
unfolding count_of_words
seventeen_words = refl

at_one_to_three_levels : map count_of_words (1 ∷ 2 ∷ 3 ∷ []) ≡ 5 ∷ 17 ∷ 45 ∷ []
unfolding count_of_words
at_one_to_three_levels = refl

-- is_word
the_root_is_one_node : is_word 2 (C 2 0 1) ≡ true
the_root_is_one_node = refl

it_has_no_second : is_word 2 (C 2 1 0) ≡ false
it_has_no_second = refl

a_node_has_two_sides : is_word 2 (C 1 1 2) ≡ false
a_node_has_two_sides = refl

a_word_P_for_each_place_and_level : is_word 2 (P 2 3) ≡ true
a_word_P_for_each_place_and_level = refl

no_level_0 : is_word 2 (T 0 0) ≡ false
no_level_0 = refl

it_has_all_its_words : map (is_word 2) words_of_two_levels ≡ map (λ (word : Word). true) words_of_two_levels
it_has_all_its_words = refl

it_has_no_others :
    map (is_word 2)
    (C 0 0 0 ∷ C 3 0 0 ∷ C 1 2 0 ∷ C 2 1 0 ∷ C 1 0 2 ∷ T 0 0 ∷ T 3 0 ∷ T 1 2 ∷ T 2 1 ∷ P 0 0 ∷ P 3 0 ∷ P 1 4 ∷ [])
    ≡ false ∷ false ∷ false ∷ false ∷ false ∷ false ∷ false ∷ false ∷ false ∷ false ∷ false ∷ false ∷ []
it_has_no_others = refl

-- HasShape
one_level_is_a_tree : HasShape 1
one_level_is_a_tree = (omega arith, omega arith)

the_most_levels_are_a_tree : HasShape MAX_LEVELS
the_most_levels_are_a_tree = (omega arith, omega arith)

no_level_is_none : ¬ HasShape 0
no_level_is_none h = omega (arith, h.0)

one_level_more_is_none : ¬ HasShape (MAX_LEVELS + 1)
one_level_more_is_none h = omega (arith, h.1)

-- Rivals
on_two_sides_of_one_node : Rivals (node_of 1) (side_of 1) 4 5
unfolding node_of side_of
on_two_sides_of_one_node = (refl, λ same. cc)

not_on_the_same_side : ¬ Rivals (node_of 2) (side_of 2) 4 5
unfolding side_of
not_on_the_same_side h = h.1 refl

not_at_two_nodes : ¬ Rivals (node_of 1) (side_of 1) 2 5
unfolding node_of side_of
not_at_two_nodes h = let node = h.0 in cc

-- AreRivals
two_neighbours_at_their_leaf : AreRivals 1 4 5
unfolding node_of side_of
two_neighbours_at_their_leaf = (refl, λ same. cc)

but_not_above_it : ¬ AreRivals 2 4 5
unfolding side_of
but_not_above_it h = h.1 refl

-- IsWord
the_words_of_a_leaf : IsWord 2 (C 1 1 1) × IsWord 2 (T 1 1) × IsWord 2 (P 1 3)
the_words_of_a_leaf = ((omega arith, omega arith, omega arith, omega arith), (omega arith, omega arith, omega arith), (omega arith, omega arith, omega arith))

the_words_of_the_root : IsWord 2 (C 2 0 0) × IsWord 2 (T 2 0) × IsWord 2 (P 2 0)
the_words_of_the_root = ((omega arith, omega arith, omega arith, omega arith), (omega arith, omega arith, omega arith), (omega arith, omega arith, omega arith))

none_at_a_level_0 : (¬ IsWord 2 (C 0 0 0)) × (¬ IsWord 2 (T 0 0)) × (¬ IsWord 2 (P 0 0))
none_at_a_level_0 = (λ h. omega (arith, h.0), λ h. omega (arith, h.0), λ h. omega (arith, h.0))

none_above_the_root : (¬ IsWord 2 (C 3 0 0)) × (¬ IsWord 2 (T 3 0)) × (¬ IsWord 2 (P 3 0))
none_above_the_root = (λ h. omega (arith, h.1), λ h. omega (arith, h.1), λ h. omega (arith, h.1))

no_third_leaf_and_no_place_4 : (¬ IsWord 2 (C 1 2 0)) × (¬ IsWord 2 (T 1 2)) × (¬ IsWord 2 (P 1 4))
no_third_leaf_and_no_place_4 = (λ h. omega (arith, h.2), λ h. omega (arith, h.2), λ h. omega (arith, h.2))

no_second_root : (¬ IsWord 2 (C 2 1 0)) × (¬ IsWord 2 (T 2 1))
no_second_root = (λ h. omega (arith, h.2), λ h. omega (arith, h.2))

no_third_side : ¬ IsWord 2 (C 1 0 2)
no_third_side h = omega (arith, h.3)

-- words_of
each_word_from_its_number_and_0_for_no_word :
    map (words_of 1 (10 ∷ 11 ∷ 12 ∷ 13 ∷ 14 ∷ [])) (C 1 0 0 ∷ C 1 0 1 ∷ T 1 0 ∷ P 1 0 ∷ P 1 1 ∷ C 1 1 0 ∷ [])
    ≡ 10 ∷ 11 ∷ 12 ∷ 13 ∷ 14 ∷ 0 ∷ []
unfolding words_of number_of
each_word_from_its_number_and_0_for_no_word = refl

-- row_state
a_row_and_its_processes :
    ((row_state 1 (10 ∷ 11 ∷ 12 ∷ 13 ∷ 14 ∷ []) (λ place. Inside)).words (T 1 0) ≡ 12)
    × ((row_state 1 (10 ∷ 11 ∷ 12 ∷ 13 ∷ 14 ∷ []) (λ place. Inside)).processes 1 ≡ Inside)
unfolding words_of number_of
a_row_and_its_processes = (refl, refl)
