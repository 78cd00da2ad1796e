-- The offers at a prefix, and the answers to several look-ups.
use Rattle.std.specs.Prelude.{List, [], ◌∷◌, ◌++◌, Option, Some, None, map}
use Rattle.std.specs.List.{Contains}
use Rattle.rt_cidr.specs.declared.address.Addr.{Addr}
use Rattle.rt_cidr.specs.declared.prefixes.Prefix.{Prefix}
use Rattle.rt_trie.specs.Map.{get}
use Rattle.rt_rib.specs.declared.routes.Route.{Route}
use Rattle.rt_rib.specs.declared.offers.Offer.{Offer}
use Rattle.rt_rib.specs.LookUp.{look_up}
use Rattle.rt_rib.specs.Maps.{Map, route_by}
use Rattle.rt_rib.specs.Order.{offer_of}

-- the offers found at a prefix, or the empty list if nothing was found
abbrev pub offers_in : Option (List Offer) → List Offer
offers_in None = []
offers_in (Some offers) = offers

-- the offers of the map at a prefix
abbrev pub offers_at : Map → Prefix → List Offer
offers_at m p = offers_in (get m p)

-- the answer to a look-up of each address
abbrev pub look_up_each : List Addr → List Route → List (Option Route)
look_up_each addresses routes = map (λ addr. look_up addr routes) addresses

-- the routes of the map, with the last prefix first; each prefix's routes are in their usual order
abbrev pub routes_backward : Map → List Route
routes_backward [] = []
routes_backward ((p, offers) ∷ rest) = routes_backward rest ++ map (route_by p) offers

-- the map holds the route: the offers at its prefix contain its offer
abbrev pub HasRoute : Map → Route → Type 0
HasRoute m r = Contains (offers_at m r.prefix) (offer_of r)
