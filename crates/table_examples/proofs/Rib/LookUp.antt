-- Examples of look-ups.
use Rattle.std.proofs.Common.{◌≡◌, true, false, Some, None, [], ◌∷◌, refl}
use Rattle.table_examples.proofs.Cidr.{everything, ten_8, ten_0_16, last_32}
use Rattle.rt_rib.specs.LookUp.{matching, longest_of, best, look_up, beats, ranking, look_up_all, best_routes}
use Rattle.table_examples.proofs.Rib.Values.{ten_1_16, at_10_1_2_3, at_10_2_3_4, at_198_51_100_7, at_last, route, nested}

-- matching
matching_leaves_the_prefixes_that_cover : matching at_10_2_3_4 nested ≡ route everything 1 200 ∷ route ten_8 1 100 ∷ []
matching_leaves_the_prefixes_that_cover = refl

every_prefix_may_match : matching at_10_1_2_3 nested ≡ nested
every_prefix_may_match = refl

-- longest_of
longest_of_leaves_the_longest : longest_of nested ≡ route ten_1_16 1 100 ∷ []
longest_of_leaves_the_longest = refl

longest_of_leaves_all_of_one_length :
    longest_of (route everything 1 0 ∷ route ten_8 1 50 ∷ route ten_8 2 30 ∷ []) ≡ route ten_8 1 50 ∷ route ten_8 2 30 ∷ []
longest_of_leaves_all_of_one_length = refl

-- best
best_is_the_least_preference : best (route ten_8 1 50 ∷ route ten_8 2 30 ∷ []) ≡ Some (route ten_8 2 30)
best_is_the_least_preference = refl

best_of_a_tie_is_the_least_feed : best (route ten_8 64 30 ∷ route ten_8 2 30 ∷ []) ≡ Some (route ten_8 2 30)
best_of_a_tie_is_the_least_feed = refl

best_of_none_is_none : best [] ≡ None
best_of_none_is_none = refl

-- look_up
look_up_takes_the_longest_prefix : look_up at_10_1_2_3 nested ≡ Some (route ten_1_16 1 100)
unfolding look_up
look_up_takes_the_longest_prefix = refl

look_up_takes_a_shorter_that_covers : look_up at_10_2_3_4 nested ≡ Some (route ten_8 1 100)
unfolding look_up
look_up_takes_a_shorter_that_covers = refl

look_up_takes_the_default : look_up at_198_51_100_7 nested ≡ Some (route everything 1 200)
unfolding look_up
look_up_takes_the_default = refl

look_up_goes_by_length_before_preference :
    look_up at_10_1_2_3 (route ten_8 1 0 ∷ route ten_1_16 2 9 ∷ []) ≡ Some (route ten_1_16 2 9)
unfolding look_up
look_up_goes_by_length_before_preference = refl

look_up_of_the_last_address : look_up at_last (route last_32 1 9 ∷ []) ≡ Some (route last_32 1 9)
unfolding look_up
look_up_of_the_last_address = refl

look_up_finds_nothing_where_nothing_covers : look_up at_198_51_100_7 (route ten_8 1 5 ∷ route last_32 1 9 ∷ []) ≡ None
unfolding look_up
look_up_finds_nothing_where_nothing_covers = refl

-- beats
a_longer_prefix_beats_and_the_better_of_one_length :
    (beats (route ten_8 2 30) (route everything 1 0) ≡ true) × (beats (route ten_8 2 30) (route ten_8 1 50) ≡ true)
a_longer_prefix_beats_and_the_better_of_one_length = (refl, refl)

neither_a_shorter_one_beats_nor_the_route_itself :
    (beats (route everything 1 0) (route ten_8 2 30) ≡ false) × (beats (route ten_8 1 5) (route ten_8 1 5) ≡ false)
neither_a_shorter_one_beats_nor_the_route_itself = (refl, refl)

-- ranking
ranking_of_what_stands_in_any_order :
    ranking (route ten_8 1 50 ∷ route ten_1_16 1 100 ∷ route ten_8 2 30 ∷ route everything 1 0 ∷ [])
    ≡ route ten_1_16 1 100 ∷ route ten_8 2 30 ∷ route ten_8 1 50 ∷ route everything 1 0 ∷ []
ranking_of_what_stands_in_any_order = refl

ranking_of_a_tie_begins_with_the_least_feed : ranking (route ten_8 64 30 ∷ route ten_8 2 30 ∷ []) ≡ route ten_8 2 30 ∷ route ten_8 64 30 ∷ []
ranking_of_a_tie_begins_with_the_least_feed = refl

ranking_of_none_is_none : ranking [] ≡ []
ranking_of_none_is_none = refl

-- look_up_all
look_up_all_ends_with_the_default : look_up_all at_10_1_2_3 nested ≡ route ten_1_16 1 100 ∷ route ten_8 1 100 ∷ route everything 1 200 ∷ []
unfolding look_up_all
look_up_all_ends_with_the_default = refl

look_up_all_leaves_out_what_does_not_cover : look_up_all at_10_2_3_4 nested ≡ route ten_8 1 100 ∷ route everything 1 200 ∷ []
unfolding look_up_all
look_up_all_leaves_out_what_does_not_cover = refl

look_up_all_goes_by_preference_before_feed :
    look_up_all at_10_2_3_4 (route ten_8 2 30 ∷ route ten_8 64 30 ∷ route ten_8 1 50 ∷ []) ≡ route ten_8 2 30 ∷ route ten_8 64 30 ∷ route ten_8 1 50 ∷ []
unfolding look_up_all
look_up_all_goes_by_preference_before_feed = refl

look_up_all_of_the_last_address : look_up_all at_last (route everything 1 5 ∷ route last_32 1 9 ∷ []) ≡ route last_32 1 9 ∷ route everything 1 5 ∷ []
unfolding look_up_all
look_up_all_of_the_last_address = refl

look_up_all_finds_nothing_where_nothing_covers : look_up_all at_198_51_100_7 (route ten_8 1 5 ∷ route last_32 1 9 ∷ []) ≡ []
unfolding look_up_all
look_up_all_finds_nothing_where_nothing_covers = refl

-- best_routes
best_routes_leaves_one_of_each_prefix :
    best_routes (route everything 1 200 ∷ route ten_8 2 30 ∷ route ten_8 1 50 ∷ route ten_1_16 1 100 ∷ [])
    ≡ route everything 1 200 ∷ route ten_8 2 30 ∷ route ten_1_16 1 100 ∷ []
best_routes_leaves_one_of_each_prefix = refl

best_routes_of_a_tie_is_the_least_feed : best_routes (route ten_8 2 30 ∷ route ten_8 64 30 ∷ []) ≡ route ten_8 2 30 ∷ []
best_routes_of_a_tie_is_the_least_feed = refl

best_routes_tells_prefixes_of_one_base_apart : best_routes (route ten_8 1 5 ∷ route ten_0_16 2 9 ∷ []) ≡ route ten_8 1 5 ∷ route ten_0_16 2 9 ∷ []
best_routes_tells_prefixes_of_one_base_apart = refl
