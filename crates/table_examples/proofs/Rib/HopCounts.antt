-- Examples of counts by next hop.
use Rattle.std.proofs.Common.{◌≡◌, List, [], ◌∷◌, refl, arith}
use Rattle.std.specs.Prelude.{map}
use Rattle.table_examples.proofs.Cidr.{everything, ten_8}
use Rattle.rt_cidr.specs.declared.address.Addr.{Addr}
use Rattle.rt_rib.specs.declared.routes.Hop.TheVariants.{Via, Discard}
use Rattle.rt_rib.specs.declared.routes.Route.{Route}
use Rattle.rt_rib.specs.declared.hop_counts.HopCount.{HopCount}
use Rattle.rt_rib.specs.HopCounts.{uses_of, hop_position, IsHopCount, AreHopCounts}
use Rattle.rt_rib.proofs.Sets.{Contains-head, Contains-tail, Contains-none}
use Rattle.table_examples.proofs.Rib.Values.{ten_1_16, route, via_192_0_2, route_via}

-- two prefixes whose best routes use the router 1, though another route to one of them uses the router 2; and one for the
-- router 2
abbrev three_prefixes : List Route
three_prefixes =
    route_via everything 1 10 (via_192_0_2 1) ∷ route_via ten_8 1 10 (via_192_0_2 1) ∷ route_via ten_8 2 20 (via_192_0_2 2)
    ∷ route_via ten_1_16 2 20 (via_192_0_2 2) ∷ []

-- uses_of
of_the_best_routes_alone : map (λ hop. uses_of hop three_prefixes) (via_192_0_2 1 ∷ via_192_0_2 2 ∷ via_192_0_2 3 ∷ Discard ∷ []) ≡ 2 ∷ 1 ∷ 0 ∷ 0 ∷ []
of_the_best_routes_alone = refl

where_packets_are_discarded : uses_of Discard (route everything 1 10 ∷ route ten_8 2 20 ∷ []) ≡ 2
where_packets_are_discarded = refl

-- hop_position
discarding_before_the_lowest_router : map hop_position (Discard ∷ Via (record { 0 = 0 }) ∷ Via (record { 0 = 9 }) ∷ []) ≡ 0 ∷ 1 ∷ 10 ∷ []
discarding_before_the_lowest_router = refl

-- the counts of both routers, and none of the third
abbrev of_one : HopCount
of_one = record { hop = via_192_0_2 1; routes = 2 }

abbrev of_two : HopCount
of_two = record { hop = via_192_0_2 2; routes = 1 }

abbrev of_three : HopCount
of_three = record { hop = via_192_0_2 3; routes = 0 }

-- IsHopCount
two_routes_of_a_router : IsHopCount three_prefixes of_one
two_routes_of_a_router = record { some = omega arith; counted = refl }

a_router_without_routes_has_none : IsHopCount three_prefixes of_three → ⊥
a_router_without_routes_has_none h = let none = h.some in absurd (omega arith)

another_number_is_none : IsHopCount three_prefixes (record { hop = via_192_0_2 2; routes = 2 }) → ⊥
another_number_is_none h = let number = h.counted in absurd (omega arith)

-- AreHopCounts
no_next_hop_is_left_out : AreHopCounts three_prefixes [] → ⊥
no_next_hop_is_left_out h = Contains-none of_one ((h.exactly of_one).1 two_routes_of_a_router)

nothing_but_next_hops_that_are_used : AreHopCounts three_prefixes (of_one ∷ of_two ∷ of_three ∷ []) → ⊥
nothing_but_next_hops_that_are_used h =
    a_router_without_routes_has_none ((h.exactly of_three).0 (Contains-tail of_one (of_two ∷ of_three ∷ []) of_three
    (Contains-tail of_two (of_three ∷ []) of_three (Contains-head of_three []))))

by_rising_addresses : AreHopCounts three_prefixes (of_two ∷ of_one ∷ []) → ⊥
by_rising_addresses h = let rising = h.ordered 0 1 of_one (omega arith) (omega arith) in absurd (omega arith)

each_next_hop_once : AreHopCounts three_prefixes (of_one ∷ of_one ∷ of_two ∷ []) → ⊥
each_next_hop_once h = let rising = h.ordered 0 1 of_one (omega arith) (omega arith) in absurd (omega arith)
