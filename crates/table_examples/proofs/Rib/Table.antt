-- Examples of the routes of a table and of their order.
use Rattle.std.proofs.Common.{◌≡◌, true, false, [], ◌∷◌, ◌++◌, refl, arith}
use Rattle.table_examples.proofs.Cidr.{everything, ten_8, ten_0_16, last_32}
use Rattle.rt_rib.specs.Table.{is_of, has, count_of, is_better, precedes, put_in, take_out, purge, IsTable}
use Rattle.rt_rib.proofs.Tables.{IsTable-nil, IsTable-put_in}
use Rattle.table_examples.proofs.Rib.Values.{upper_half, ten_1_16, route, nested}

-- is_of
own_route_to_the_prefix : is_of 1 ten_8 (route ten_8 1 5) ≡ true
own_route_to_the_prefix = refl

not_another_feeds : is_of 2 ten_8 (route ten_8 1 5) ≡ false
not_another_feeds = refl

not_to_a_longer_prefix : is_of 1 ten_8 (route ten_1_16 1 5) ≡ false
not_to_a_longer_prefix = refl

-- has
has_its_own : has 64 last_32 (route ten_8 1 5 ∷ route last_32 64 5 ∷ []) ≡ true
has_its_own = refl

has_no_other_feeds : has 64 ten_8 (route ten_8 1 5 ∷ route last_32 64 5 ∷ []) ≡ false
has_no_other_feeds = refl

-- count_of
three_are_of_feed_1 : count_of 1 (route ten_8 2 5 ∷ nested) ≡ 3
three_are_of_feed_1 = refl

one_is_of_feed_2 : count_of 2 (route ten_8 2 5 ∷ nested) ≡ 1
one_is_of_feed_2 = refl

-- is_better
lesser_preference_is_better : is_better (route ten_8 64 4) (route ten_8 1 5) ≡ true
lesser_preference_is_better = refl

of_equal_preference_the_lesser_feed_is : is_better (route ten_8 1 5) (route ten_8 64 5) ≡ true
of_equal_preference_the_lesser_feed_is = refl

neither_the_greater_preference_nor_the_route_itself :
    (is_better (route ten_8 1 5) (route ten_8 64 4) ≡ false) × (is_better (route ten_8 1 5) (route ten_8 1 5) ≡ false)
neither_the_greater_preference_nor_the_route_itself = (refl, refl)

-- precedes
by_base_before_length : precedes (route ten_8 64 9) (route upper_half 1 0) ≡ true
by_base_before_length = refl

by_length_before_preference :
    precedes (route ten_8 2 100) (route ten_0_16 1 0) ≡ true
by_length_before_preference = refl

by_preference_before_feed : precedes (route ten_8 2 30) (route ten_8 1 50) ≡ true
by_preference_before_feed = refl

not_the_greater_feed_nor_the_greater_base_nor_the_longer :
    (precedes (route ten_8 2 30) (route ten_8 1 30) ≡ false) × (precedes (route ten_1_16 1 0) (route ten_8 2 9) ≡ false)
    × (precedes (route ten_0_16 1 0) (route ten_8 2 9) ≡ false)
not_the_greater_feed_nor_the_greater_base_nor_the_longer = (refl, refl, refl)

-- put_in
put_in_stands_in_dump_order :
    put_in (route ten_8 2 30) (route ten_8 1 50 ∷ route ten_1_16 1 10 ∷ []) ≡ route ten_8 2 30 ∷ route ten_8 1 50 ∷ route ten_1_16 1 10 ∷ []
put_in_stands_in_dump_order = refl

put_in_goes_behind_what_precedes_it : put_in (route last_32 1 0) nested ≡ nested ++ route last_32 1 0 ∷ []
put_in_goes_behind_what_precedes_it = refl

-- take_out
take_out_leaves_the_other_feeds : take_out 1 ten_8 (route ten_8 2 30 ∷ route ten_8 1 50 ∷ []) ≡ route ten_8 2 30 ∷ []
take_out_leaves_the_other_feeds = refl

take_out_leaves_the_other_prefixes : take_out 1 ten_1_16 nested ≡ route everything 1 200 ∷ route ten_8 1 100 ∷ []
take_out_leaves_the_other_prefixes = refl

-- purge
purge_leaves_the_other_feeds : purge 1 (route ten_8 2 30 ∷ nested) ≡ route ten_8 2 30 ∷ []
purge_leaves_the_other_feeds = refl

purge_of_none : purge 3 nested ≡ nested
purge_of_none = refl

-- IsTable
what_was_put_in_is_a_table : IsTable (put_in (route ten_8 1 50) (put_in (route ten_1_16 1 10) []))
what_was_put_in_is_a_table = IsTable-put_in (route ten_8 1 50) (put_in (route ten_1_16 1 10) []) refl (IsTable-put_in (route ten_1_16 1 10) [] refl IsTable-nil)

another_order_is_no_table : ¬ IsTable (route ten_1_16 1 10 ∷ route ten_8 1 50 ∷ [])
another_order_is_no_table h = let same = h.ordered 0 1 (route ten_8 1 50) (omega arith) (omega arith) in cc

two_of_one_feed_and_prefix_are_no_table : ¬ IsTable (route ten_8 1 10 ∷ route ten_8 1 50 ∷ [])
two_of_one_feed_and_prefix_are_no_table h = let same = h.single 0 1 (route ten_8 1 50) (omega arith) (omega arith) in cc
