use Rattle.std.proofs.Common.{◌≡◌, ◌+◌, ◌<◌, length}
use Rattle.std.specs.Prelude.{count_by}
use Rattle.std.specs.List.{All}
use Rattle.std.specs.Map.{values_of}
use Rattle.rt_rib.specs.declared.routes.Hop.{Hop}
use Rattle.rt_rib.specs.declared.hop_counts.HopCount.{HopCount}
use Rattle.rt_rib.specs.Selection.{same_hop}
use Rattle.rt_rib.specs.inside.HopMaps.{AreKeyed, total_routes, routes_with, first_routes}
use Rattle.rt_rib.proofs.hop_counts.hop_counts.Given as goal

-- the routes that are counted and the remaining ones are all best routes
abbrev pub invariant-loop-offers : goal.invariant-loop-offers
invariant-loop-offers g l = record {
  keyed : AreKeyed l.counts.entries;
  routes : (hop : Hop) → routes_with hop (values_of l.counts.entries) + count_by (λ r. same_hop r.hop hop) (first_routes l.offers-iterator)
      ≡ count_by (λ r. same_hop r.hop hop) (first_routes l.map.pairs);
  all : total_routes l.counts.entries + length l.offers-iterator ≡ length l.map.pairs;
  some : All (λ (c : HopCount). 0 < c.routes) (values_of l.counts.entries);
}
