-- The best route of each prefix of a map, and counts by next hop in a map by the next hops' positions.
use Rattle.std.specs.Prelude.{◌≡◌, ℕ, ◌+◌, ◌<◌, if◌then◌else◌, List, [], ◌∷◌, All, sum_by}
use Rattle.std.specs.Map.{values_of}
use Rattle.rt_rib.specs.declared.routes.Hop.{Hop}
use Rattle.rt_rib.specs.declared.routes.Route.{Route}
use Rattle.rt_rib.specs.declared.hop_counts.HopCount.{HopCount}
use Rattle.rt_rib.specs.HopCounts.{hop_position}
use Rattle.rt_rib.specs.Maps.{Map, route_by}
use Rattle.rt_rib.specs.Selection.{same_hop}

-- the route of the first offer at each prefix
abbrev pub first_routes : Map → List Route
first_routes [] = []
first_routes ((p, []) ∷ rest) = first_routes rest
first_routes ((p, o ∷ others) ∷ rest) = route_by p o ∷ first_routes rest

-- entries of such a map
abbrev pub Entries : Type 0
Entries = List (ℕ × HopCount)

-- the key is the position of the count's next hop
abbrev pub IsKeyed : ℕ × HopCount → Type 0
IsKeyed e = e.0 ≡ hop_position e.1.hop

abbrev pub AreKeyed : Entries → Type 0
AreKeyed entries = All IsKeyed entries

-- the number of all routes
abbrev pub total_routes : Entries → ℕ
total_routes entries = sum_by (λ (c : HopCount). c.routes) (values_of entries)

-- the number of routes with a next hop by the list of counts
abbrev pub routes_with : Hop → List HopCount → ℕ
routes_with hop counts = sum_by (λ (c : HopCount). if same_hop c.hop hop then c.routes else 0) counts

-- a route with this next hop is counted too
pub record CountsOneMore (hop : Hop) (old new : Entries) : Type 0 where
  pub keyed : AreKeyed new
  pub routes : (h : Hop) → routes_with h (values_of new) ≡ routes_with h (values_of old) + (if same_hop hop h then 1 else 0)
  pub all : total_routes new ≡ total_routes old + 1
  pub some : All (λ (c : HopCount). 0 < c.routes) (values_of old) → All (λ (c : HopCount). 0 < c.routes) (values_of new)
