-- How many best routes use each next hop.
use Rattle.std.specs.Prelude.{◌≡◌, ℕ, ◌+◌, ◌<◌, ◌↔◌, List, count_by}
use Rattle.std.specs.List.{AllPairs, Contains}
use Rattle.rt_rib.specs.declared.routes.Hop.{Hop}
use Rattle.rt_rib.specs.declared.routes.Hop.TheVariants.{Via, Discard}
use Rattle.rt_rib.specs.declared.routes.Route.{Route}
use Rattle.rt_rib.specs.declared.hop_counts.HopCount.{HopCount}
use Rattle.rt_rib.specs.LookUp.{best_routes}
use Rattle.rt_rib.specs.Selection.{same_hop}

-- the number of a table's best routes that use the next hop
abbrev pub uses_of : Hop → List Route → ℕ
uses_of hop table = count_by (λ r. same_hop r.hop hop) (best_routes table)

-- the position of a next hop in the order of counts: `Discard`, and then the routers by their addresses
abbrev pub hop_position : Hop → ℕ
hop_position Discard = 0
hop_position (Via address) = address.0 + 1

-- some best route uses the next hop, and this is how many do
pub record IsHopCount (table : List Route) (c : HopCount) : Type 0 where
  pub some : 0 < c.routes
  pub counted : c.routes ≡ uses_of c.hop table

-- the list contains exactly these counts, in order, so each next hop that a best route uses is there once
pub record AreHopCounts (table : List Route) (counts : List HopCount) : Type 0 where
  pub exactly : (c : HopCount) → Contains counts c ↔ IsHopCount table c
  pub ordered : AllPairs (λ c d. hop_position c.hop < hop_position d.hop) counts
