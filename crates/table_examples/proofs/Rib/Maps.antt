-- Examples of offers, and of maps from prefixes to offers.
use Rattle.std.proofs.Common.{◌≡◌, Bool, true, false, if◌then◌else◌, Some, List, [], ◌∷◌, refl, subst, arith}
use Rattle.std.proofs.lemmas.List.Elements.{All-nil, All-cons}
use Rattle.std.proofs.lemmas.List.Kept.{AllPairs-cons}
use Rattle.rt_cidr.specs.declared.prefixes.Prefix.{Prefix}
use Rattle.table_examples.proofs.Cidr.{ten_8}
use Rattle.rt_trie.specs.Map.{get, same_prefix}
use Rattle.rt_rib.specs.declared.offers.Offer.{Offer}
use Rattle.rt_rib.specs.Maps.{outranks, is_from, IsRanked, IsOffers, Map, route_by, routes_of, IsMap}
use Rattle.rt_rib.proofs.OfferLists.{IsRanked-one}
use Rattle.table_examples.proofs.Rib.Values.{ten_1_16, route, offer, two_prefixes}

-- outranks
lesser_preference_outranks : outranks (offer 64 4) (offer 1 5) ≡ true
lesser_preference_outranks = refl

of_equal_preference_the_lesser_feed_outranks : outranks (offer 1 5) (offer 64 5) ≡ true
of_equal_preference_the_lesser_feed_outranks = refl

nothing_outranks_itself : outranks (offer 1 5) (offer 1 5) ≡ false
nothing_outranks_itself = refl

-- is_from
from_its_feed : is_from 64 (offer 64 5) ≡ true
from_its_feed = refl

from_no_other : is_from 1 (offer 64 5) ≡ false
from_no_other = refl

-- IsRanked
two_ranked : IsRanked (offer 2 30 ∷ offer 1 50 ∷ [])
two_ranked = record {
  ordered = AllPairs-cons (λ a b. outranks a b ≡ true) (offer 2 30) (offer 1 50 ∷ [])
      (All-cons (λ b. outranks (offer 2 30) b ≡ true) (offer 1 50) [] refl (All-nil (λ b. outranks (offer 2 30) b ≡ true))) (IsRanked-one (offer 1 50)).ordered;
  single = AllPairs-cons (λ a b. is_from b.feed a ≡ false) (offer 2 30) (offer 1 50 ∷ [])
      (All-cons (λ b. is_from b.feed (offer 2 30) ≡ false) (offer 1 50) [] refl (All-nil (λ b. is_from b.feed (offer 2 30) ≡ false)))
      (IsRanked-one (offer 1 50)).single;
}

the_best_comes_first : ¬ IsRanked (offer 1 50 ∷ offer 2 30 ∷ [])
the_best_comes_first h = let same = h.ordered 0 1 (offer 1 50) (omega arith) (omega arith) in cc

a_feed_has_one_offer : ¬ IsRanked (offer 1 30 ∷ offer 1 50 ∷ [])
a_feed_has_one_offer h = let same = h.single 0 1 (offer 1 30) (omega arith) (omega arith) in cc

-- IsOffers
two_are_offers : IsOffers (offer 2 30 ∷ offer 1 50 ∷ [])
two_are_offers = record { some = omega arith; ranked = two_ranked }

pub none_is_not : ¬ IsOffers []
none_is_not h = omega (arith, h.some)

-- all offers at prefixes of the map are valid if those of its first prefix and of the rest are
pub each_of : (q : Prefix) (first : List Offer) (rest : Map) → IsOffers first
    → ((p : Prefix) (offers : List Offer) → get rest p ≡ Some offers → IsOffers offers)
    → (p : Prefix) (offers : List Offer) → get ((q, first) ∷ rest) p ≡ Some offers → IsOffers offers
each_of q first rest is others p offers found = by (same_prefix q p) found
  where
    by : (same : Bool) → (if same then Some first else get rest p) ≡ Some offers → IsOffers offers
    by true found = let one : first ≡ offers = cc in subst IsOffers one is
    by false found = others p offers found

-- IsMap
pub a_map_of_two_prefixes : IsMap two_prefixes
a_map_of_two_prefixes = record {
  ordered = ((refl, tt), (tt, tt));
  each =
      each_of ten_8 (offer 2 30 ∷ offer 1 50 ∷ []) ((ten_1_16, offer 1 10 ∷ []) ∷ []) two_are_offers
      (each_of ten_1_16 (offer 1 10 ∷ []) [] (record { some = omega arith; ranked = IsRanked-one (offer 1 10) }) (λ p offers found. cc));
}

no_prefix_without_offers : ¬ IsMap ((ten_8, []) ∷ [])
no_prefix_without_offers h = none_is_not (h.each ten_8 [] refl)

no_prefix_twice : ¬ IsMap ((ten_8, offer 2 30 ∷ []) ∷ (ten_8, offer 1 50 ∷ []) ∷ [])
no_prefix_twice h = let same = h.ordered.0.0 in cc

-- route_by
the_route_of_an_offer : route_by ten_8 (offer 2 30) ≡ route ten_8 2 30
the_route_of_an_offer = refl

-- routes_of
routes_prefix_by_prefix : routes_of two_prefixes ≡ route ten_8 2 30 ∷ route ten_8 1 50 ∷ route ten_1_16 1 10 ∷ []
routes_prefix_by_prefix = refl

-- Map
of_one_prefix : Map
of_one_prefix = (ten_8, offer 1 5 ∷ []) ∷ []
