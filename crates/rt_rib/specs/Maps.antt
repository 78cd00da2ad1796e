-- A map from prefixes to their offers, each prefix's in order, and the routes that it represents.
use Rattle.std.specs.Prelude.{◌≡◌, List, [], ◌∷◌, ◌++◌, Some, map, ℕ, ◌<◌, Bool, true, false, ◌==◌, length}
use Rattle.rt_cidr.specs.declared.prefixes.Prefix.{Prefix}
use Rattle.rt_trie.specs.Map.{Pairs, get, IsOrdered}
use Rattle.rt_rib.specs.declared.routes.Route.{Route}
use Rattle.rt_rib.specs.declared.offers.Offer.{Offer}
use Rattle.std.specs.List.{AllPairs}
use Rattle.rt_rib.specs.Order.{policy, wins}

-- true if the first is preferred: its preference number is lower, or the same and its feed number is lower
abbrev pub outranks : Offer → Offer → Bool
outranks a b = wins (policy a b)

-- true if the offer is this feed's
abbrev pub is_from : ℕ → Offer → Bool
is_from feed o = o.feed == feed

-- each offer outranks those after it, and no two are of the same feed
pub record IsRanked (offers : List Offer) : Type 0 where
  pub ordered : AllPairs (λ a b. outranks a b ≡ true) offers
  pub single : AllPairs (λ a b. is_from b.feed a ≡ false) offers

-- the offers at a prefix of the map: at least one, in that order
pub record IsOffers (offers : List Offer) : Type 0 where
  pub some : 0 < length offers
  pub ranked : IsRanked offers

-- each prefix that has offers, with its offers
abbrev pub Map : Type 0
Map = Pairs (List Offer)

-- the route of an offer for a prefix
abbrev pub route_by : Prefix → Offer → Route
route_by p o = record { prefix = p; feed = o.feed; pref = o.pref; hop = o.hop }

-- the routes of the map, prefix by prefix
abbrev pub routes_of : Map → List Route
routes_of [] = []
routes_of ((p, offers) ∷ rest) = map (route_by p) offers ++ routes_of rest

-- each prefix is in the map once, with at least one offer, and its offers in order
pub record IsMap (m : Map) : Type 0 where
  pub ordered : IsOrdered m
  pub each : (p : Prefix) (offers : List Offer) → get m p ≡ Some offers → IsOffers offers
