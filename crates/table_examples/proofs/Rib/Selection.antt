-- Examples of selections.
use Rattle.std.proofs.Common.{◌≡◌, ℕ, Bool, true, false, Some, None, List, [], ◌∷◌, refl}
use Rattle.std.specs.Prelude.{Option, map}
use Rattle.table_examples.proofs.Cidr.{everything, ten_8, ten_0_16, last_32}
use Rattle.rt_rib.specs.declared.routes.Hop.{Hop}
use Rattle.rt_rib.specs.declared.routes.Hop.TheVariants.{Discard}
use Rattle.rt_rib.specs.declared.routes.Route.{Route}
use Rattle.rt_rib.specs.declared.selection.PrefixFilter.{PrefixFilter}
use Rattle.rt_rib.specs.declared.selection.PrefixFilter.TheVariants as part
use Rattle.rt_rib.specs.declared.selection.Selection.{Selection}
use Rattle.rt_rib.specs.Selection.{is_in, is_selected, is_by, same_hop, is_via, selected}
use Rattle.table_examples.proofs.Rib.Values.{ten_1_16, route, via_192_0_2, route_via}

-- is_in
what_each_part_has :
    (map (is_in part.All) (ten_8 ∷ ten_1_16 ∷ []) ≡ true ∷ true ∷ [])
    × (map (is_in (part.Within ten_8)) (everything ∷ ten_8 ∷ ten_1_16 ∷ last_32 ∷ []) ≡ false ∷ true ∷ true ∷ false ∷ [])
    × (map (is_in (part.Covering ten_8)) (everything ∷ ten_8 ∷ ten_1_16 ∷ last_32 ∷ []) ≡ true ∷ true ∷ false ∷ false ∷ [])
    × (map (is_in (part.Exact ten_8)) (everything ∷ ten_8 ∷ ten_0_16 ∷ last_32 ∷ []) ≡ false ∷ true ∷ false ∷ false ∷ [])
what_each_part_has = (refl, refl, refl, refl)

-- is_selected
the_second_of_the_two : is_selected (1 ∷ 3 ∷ []) 3 ≡ true
the_second_of_the_two = refl

every_feed_if_none_is_named : is_selected [] 7 ≡ true
every_feed_if_none_is_named = refl

-- is_by
of_any_feed_or_of_some :
    map (λ feeds. is_by feeds (route ten_8 2 30)) ([] ∷ (2 ∷ []) ∷ (1 ∷ []) ∷ (1 ∷ 2 ∷ []) ∷ (1 ∷ 3 ∷ []) ∷ []) ≡ true ∷ true ∷ false ∷ true ∷ false ∷ []
of_any_feed_or_of_some = refl

-- same_hop
a_router_with_itself_and_with_another : map (same_hop (via_192_0_2 1)) (via_192_0_2 1 ∷ via_192_0_2 2 ∷ Discard ∷ []) ≡ true ∷ false ∷ false ∷ []
a_router_with_itself_and_with_another = refl

discarding_with_a_router_and_with_itself : map (same_hop Discard) (via_192_0_2 1 ∷ Discard ∷ []) ≡ false ∷ true ∷ []
discarding_with_a_router_and_with_itself = refl

-- is_via
with_any_next_hop_or_with_one :
    map (λ hop. is_via hop (route_via ten_8 2 30 (via_192_0_2 1))) (None ∷ Some (via_192_0_2 1) ∷ Some (via_192_0_2 2) ∷ Some Discard ∷ [])
    ≡ true ∷ true ∷ false ∷ false ∷ []
with_any_next_hop_or_with_one = refl

-- the selection of a part, of the best routes or of all, by feeds and next hop
abbrev asked : PrefixFilter → Bool → List ℕ → Option Hop → Selection
asked part only_best feeds hop = record { part = part; only_best = only_best; feeds = record { ref_ptr = (0, 0); now = feeds }; hop = hop }

-- selected
abbrev three_prefixes : List Route
three_prefixes = route everything 2 200 ∷ route ten_8 2 30 ∷ route ten_8 1 50 ∷ route ten_1_16 1 10 ∷ route ten_1_16 2 100 ∷ []

of_a_part_what_is_a_feeds :
    selected (asked (part.Within ten_8) false (2 ∷ []) None) three_prefixes ≡ route ten_8 2 30 ∷ route ten_1_16 2 100 ∷ []
of_a_part_what_is_a_feeds = refl

of_the_best_what_is_a_feeds : selected (asked (part.Within ten_8) true (2 ∷ []) None) three_prefixes ≡ route ten_8 2 30 ∷ []
of_the_best_what_is_a_feeds = refl

of_three_feeds_what_is_of_two :
    selected (asked part.All false (1 ∷ 3 ∷ []) None) (route ten_8 1 1 ∷ route ten_8 2 1 ∷ route ten_8 3 1 ∷ []) ≡ route ten_8 1 1 ∷ route ten_8 3 1 ∷ []
of_three_feeds_what_is_of_two = refl

-- one prefix whose best route uses the router 1, though another route to it uses the router 2; and one for each of them
abbrev two_routers : List Route
two_routers =
    route_via everything 1 10 (via_192_0_2 1) ∷ route_via ten_8 1 10 (via_192_0_2 1) ∷ route_via ten_8 2 20 (via_192_0_2 2)
    ∷ route_via ten_1_16 2 20 (via_192_0_2 2) ∷ []

of_the_best_what_uses_a_router :
    selected (asked part.All true [] (Some (via_192_0_2 2))) two_routers
    ≡ route_via ten_1_16 2 20 (via_192_0_2 2) ∷ []
of_the_best_what_uses_a_router = refl
