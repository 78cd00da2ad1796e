-- Examples that test the definitions of rt_diff, each under a line with the definition's name. Both sides are computed;
-- a relation or a theorem is spelled out for some values.
use Rattle.std.proofs.Common.{◌≡◌, ℕ, ◌+◌, ◌<◌, Some, None, [], ◌∷◌, refl, ap, arith}
use Rattle.std.proofs.lemmas.List.Elements.{All-nil}
use Rattle.rt_rib.specs.declared.routes.Hop.{Hop}
use Rattle.rt_rib.specs.declared.routes.Hop.TheVariants.{Discard}
use Rattle.rt_rib.specs.declared.routes.Route.{Route}
use Rattle.rt_rib.specs.LookUp.{look_up}
use Rattle.table_examples.proofs.Cidr.{ten_8}
use Rattle.table_examples.proofs.Rib.{ten_1_16, at_10_1_2_3, at_10_9_0_1, via_192_0_2, route_via}
use Rattle.rt_diff.specs.declared.table_answers.CompareBy.TheVariants as by
use Rattle.rt_diff.specs.declared.table_answers.TableAnswer.{TableAnswer}
use Rattle.rt_diff.specs.declared.table_answers.TableAnswer.TheVariants as answer
use Rattle.rt_diff.specs.declared.comparison.Difference.{Difference}
use Rattle.rt_diff.specs.Answers.{answer_by, RenumberedTable, own_numbers, renumbered, renumbered_look_up, answer_of}
use Rattle.rt_diff.specs.Differences.{HasAnswers, IsAlike, IsWithin, IsDifference, IsNextDifference, Compared}
use Rattle.rt_diff.specs.Differences.{HaveSameAnswers, AreDifferences}
use Rattle.rt_diff.proofs.Rest.{at}
use Rattle.rt_diff.proofs.Lists.{AllPairs-none}

-- 10.0.0.0/8 by 192.0.2.1, and 10.1.0.0/16 by a hop
abbrev by_1 : Route
by_1 = route_via ten_8 1 5 (via_192_0_2 1)

abbrev longer_by : Hop → Route
longer_by hop = route_via ten_1_16 2 5 hop

-- a range whose addresses were discarded and now have no route
abbrev range : ℕ → ℕ → Difference
range first last = record { first = at first; last = at last; old = answer.Hop Discard; new = answer.NoRoute }

-- answer_by
what_is_found_makes_an_answer :
    (answer_by by.Hop None ≡ answer.NoRoute) × (answer_by by.Route None ≡ answer.NoRoute)
    × (answer_by by.Hop (Some by_1) ≡ answer.Hop (via_192_0_2 1)) × (answer_by by.Route (Some by_1) ≡ answer.Route by_1)
what_is_found_makes_an_answer = (refl, refl, refl, refl)

-- the table of a route of feed 1, which gets number 7
abbrev one_as_seven : RenumberedTable
one_as_seven = record { routes = by_1 ∷ []; numbers = 7 ∷ [] }

-- RenumberedTable
routes_and_numbers : (one_as_seven.routes ≡ by_1 ∷ []) × (one_as_seven.numbers ≡ 7 ∷ [])
routes_and_numbers = (refl, refl)

-- renumbered
the_kth_or_its_own : (renumbered (7 ∷ 8 ∷ []) 1 ≡ 7) × (renumbered (7 ∷ 8 ∷ []) 2 ≡ 8) × (renumbered (7 ∷ 8 ∷ []) 3 ≡ 3) × (renumbered [] 1 ≡ 1)
the_kth_or_its_own = (refl, refl, refl, refl)

-- renumbered_look_up
what_is_found_is_told_so : renumbered_look_up at_10_1_2_3 one_as_seven ≡ Some (route_via ten_8 7 5 (via_192_0_2 1))
unfolding look_up
what_is_found_is_told_so = refl

the_best_is_so_by_the_own_numbers :
    renumbered_look_up at_10_1_2_3 (record { routes = by_1 ∷ route_via ten_8 2 5 (via_192_0_2 2) ∷ []; numbers = 9 ∷ 3 ∷ [] })
    ≡ Some (route_via ten_8 9 5 (via_192_0_2 1))
unfolding look_up
the_best_is_so_by_the_own_numbers = refl

-- answer_of
the_longer_prefix_answers : answer_of by.Hop at_10_1_2_3 (own_numbers (by_1 ∷ longer_by (via_192_0_2 2) ∷ [])) ≡ answer.Hop (via_192_0_2 2)
unfolding look_up
the_longer_prefix_answers = refl

beside_it_the_shorter_one : answer_of by.Route at_10_9_0_1 (own_numbers (by_1 ∷ longer_by (via_192_0_2 2) ∷ [])) ≡ answer.Route by_1
unfolding look_up
beside_it_the_shorter_one = refl

-- IsAlike
another_route_of_one_hop : IsAlike by.Hop (own_numbers (by_1 ∷ [])) (own_numbers (by_1 ∷ longer_by (via_192_0_2 1) ∷ [])) at_10_1_2_3
unfolding look_up
another_route_of_one_hop = refl

is_another_route : ¬ IsAlike by.Route (own_numbers (by_1 ∷ [])) (own_numbers (by_1 ∷ longer_by (via_192_0_2 1) ∷ [])) at_10_1_2_3
unfolding look_up
is_another_route same = cc

another_number_of_one_feed :
    IsAlike by.Route (record { routes = by_1 ∷ []; numbers = [] }) (record { routes = route_via ten_8 2 5 (via_192_0_2 1) ∷ []; numbers = 2 ∷ 1 ∷ [] }) at_10_1_2_3
unfolding look_up
another_number_of_one_feed = refl

-- the feed of an answer that has one
abbrev feed_told : TableAnswer → ℕ
feed_told (answer.Route route) = route.feed
feed_told (answer.Hop hop) = 0
feed_told answer.NoRoute = 0

is_another_feed : ¬ IsAlike by.Route (own_numbers (by_1 ∷ [])) one_as_seven at_10_1_2_3
unfolding look_up
is_another_feed same = let feeds : 1 ≡ 7 = ap feed_told same in omega (arith, feeds)

-- HasAnswers
first_the_old_ones_then_the_new_ones : HasAnswers by.Hop (own_numbers (by_1 ∷ [])) (own_numbers []) at_10_1_2_3 (answer.Hop (via_192_0_2 1)) answer.NoRoute
unfolding look_up
first_the_old_ones_then_the_new_ones = (refl, refl)

not_exchanged : ¬ HasAnswers by.Hop (own_numbers (by_1 ∷ [])) (own_numbers []) at_10_1_2_3 answer.NoRoute (answer.Hop (via_192_0_2 1))
unfolding look_up
not_exchanged answers = let of_old = answers.0 in cc

-- IsWithin
its_first_and_its_last : IsWithin (range 10 20) (at 10) × IsWithin (range 10 20) (at 20)
its_first_and_its_last = ((omega arith, omega arith), (omega arith, omega arith))

none_beside_them : (¬ IsWithin (range 10 20) (at 9)) × (¬ IsWithin (range 10 20) (at 21))
none_beside_them = (λ h. omega (arith, h.0), λ h. omega (arith, h.1))

-- HaveSameAnswers
wherever_they_lie : HaveSameAnswers (range 10 20) (range 21 30)
wherever_they_lie = (refl, refl)

not_where_one_is_another :
    (¬ HaveSameAnswers (range 10 20) (record (range 21 30) { old = answer.NoRoute }))
    × (¬ HaveSameAnswers (range 10 20) (record (range 21 30) { new = answer.Hop Discard }))
not_where_one_is_another = (λ h. let old = h.0 in cc, λ h. let new = h.1 in cc)

-- IsDifference
no_range_without_an_address : (old new : RenumberedTable) → ¬ IsDifference by.Hop old new (range 20 10)
no_range_without_an_address old new h = omega (arith, h.some)

-- IsNextDifference
not_one_before_5 : (old new : RenumberedTable) → ¬ IsNextDifference by.Hop old new (at 5) (range 4 20)
not_one_before_5 old new h = omega (arith, h.onward)

-- a route and an empty table, compared by next hops
abbrev one_and_none : Compared
one_and_none = record { by = by.Hop; old_table = own_numbers (by_1 ∷ []); new_table = own_numbers [] }

-- Compared
by_what_and_both_tables : (one_and_none.by ≡ by.Hop) × (one_and_none.old_table ≡ own_numbers (by_1 ∷ [])) × (one_and_none.new_table ≡ own_numbers [])
by_what_and_both_tables = (refl, refl, refl)

-- AreDifferences
pub a_table_and_itself_have_none : (table : RenumberedTable) → AreDifferences by.Route table table []
a_table_and_itself_have_none table = record {
  each = All-nil (IsDifference by.Route table table);
  all = λ addr fits unlike. absurd (unlike refl);
  rising = AllPairs-none (λ (c d : Difference). c.last.0 < d.first.0);
  fewest = AllPairs-none (λ (c d : Difference). c.last.0 + 1 ≡ d.first.0 → ¬ HaveSameAnswers c d);
}
