-- The routes of the first offers of a map are the best routes of its table.
use Rattle.std.proofs.Common.{◌≡◌, ◌+◌, ◌<◌, if◌then◌else◌, List, [], ◌∷◌, ◌++◌, map, length, get_or, refl, ap, ◌∙◌, sym, arith}
use Rattle.std.specs.Prelude.{count_by}
use Rattle.std.specs.List.{Contains, dedup}
use Rattle.std.proofs.lemmas.Bool.{cond-true, cond-false}
use Rattle.std.proofs.lemmas.List.Sums.{sum_by-cons}
use Rattle.rt_cidr.specs.declared.prefixes.Prefix.{Prefix}
use Rattle.rt_cidr.specs.Prefix.{same_prefix}
use Rattle.rt_trie.specs.Map.{IsBeforeAll, IsOrdered}
use Rattle.rt_rib.specs.declared.routes.Hop.{Hop}
use Rattle.rt_rib.specs.declared.routes.Route.{Route}
use Rattle.rt_rib.specs.declared.offers.Offer.{Offer}
use Rattle.rt_rib.specs.LookUp.{best_routes}
use Rattle.rt_rib.specs.Maps.{Map, route_by, routes_of, IsMap, IsOffers}
use Rattle.rt_rib.specs.Selection.{same_hop}
use Rattle.rt_rib.specs.inside.HopMaps.{first_routes}
use Rattle.rt_rib.proofs.BestRoutes.{to_one, dedup-best}
use Rattle.rt_rib.proofs.MapRoutes.{IsTable-map, same_prefix-itself, each_offers}
use Rattle.rt_rib.proofs.Selections.{another}
use Rattle.rt_rib.proofs.Sets.{Contains-head, Contains-tail}

-- of the routes to one prefix, the first remains
first_stays : (p : Prefix) (o : Offer) (others : List Offer) (rest : List Route)
    → dedup to_one (route_by p o ∷ map (route_by p) others ++ rest) ≡ dedup to_one (route_by p o ∷ rest)
first_stays p o [] rest = refl
first_stays p o (next ∷ others) rest =
    cond-true (same_prefix p p) (dedup to_one (route_by p o ∷ map (route_by p) others ++ rest))
    (route_by p o ∷ dedup to_one (route_by p next ∷ map (route_by p) others ++ rest)) (same_prefix-itself p)
    ∙ first_stays p o others rest

-- every list of offers has one
abbrev pub HaveOffers : Map → Type 0
HaveOffers [] = Unit {0}
HaveOffers ((p, offers) ∷ rest) = (0 < length offers) × HaveOffers rest

module _ (p : Prefix) (o : Offer) where
  -- a route to an earlier prefix remains before those of the map
  earlier_stays : (rest : Map) → IsBeforeAll p rest → HaveOffers rest
      → dedup to_one (route_by p o ∷ routes_of rest) ≡ route_by p o ∷ dedup to_one (routes_of rest)
  earlier_stays [] first have = refl
  earlier_stays ((q, []) ∷ rest) first have = absurd (omega (arith, have.0))
  earlier_stays ((q, x ∷ others) ∷ rest) first have =
      cond-false (same_prefix q p) (dedup to_one (route_by p o ∷ map (route_by q) others ++ routes_of rest))
      (route_by p o ∷ dedup to_one (route_by q x ∷ map (route_by q) others ++ routes_of rest)) (another p q first.0)

-- the first routes are those that remain if each later route to a prefix is left out
firsts_remain : (m : Map) → IsOrdered m → HaveOffers m → first_routes m ≡ dedup to_one (routes_of m)
firsts_remain [] ordered have = refl
firsts_remain ((p, []) ∷ rest) ordered have = absurd (omega (arith, have.0))
firsts_remain ((p, o ∷ others) ∷ rest) ordered have =
    ap (λ l. route_by p o ∷ l) (firsts_remain rest ordered.1 have.1)
    ∙ sym (first_stays p o others (routes_of rest) ∙ earlier_stays p o rest ordered.0 have.1)

pub first_routes-best : (m : Map) → IsMap m → first_routes m ≡ best_routes (routes_of m)
first_routes-best m h = firsts_remain m h.ordered (have m (each_offers m h)) ∙ dedup-best (routes_of m) (IsTable-map m h) where
  have : (m : Map) → ((p : Prefix) (offers : List Offer) → Contains m (p, offers) → IsOffers offers) → HaveOffers m
  have [] each = tt
  have ((p, offers) ∷ rest) each = ((each p offers (Contains-head (p, offers) rest)).some, have rest (λ q os c. each q os (Contains-tail (p, offers) rest (q, os) c)))

-- one step of a walk, as the code reads the first offer
pub first_step : (hop : Hop) (p : Prefix) (offers : List Offer) (d : Offer) (rest : Map) → 0 < length offers
    → count_by (λ r. same_hop r.hop hop) (first_routes ((p, offers) ∷ rest))
    ≡ (if same_hop (get_or offers 0 d).hop hop then 1 else 0) + count_by (λ r. same_hop r.hop hop) (first_routes rest)
first_step hop p [] d rest some = absurd (omega (arith, some))
first_step hop p (o ∷ others) d rest some = sum_by-cons (λ (r : Route). if same_hop r.hop hop then 1 else 0) (route_by p o) (first_routes rest)
