use Rattle.std.proofs.Common.{◌≡◌, ◌+◌, ◌≤◌, ◌∷◌, drop}
use Rattle.std.specs.Option.{option_map_or}
use Rattle.rt_rib.specs.declared.limits.TheConstants.{MAX_FEEDS}
use Rattle.rt_rib.specs.declared.routes.Route.{Route}
use Rattle.rt_print.specs.Counts.{prefix_count}
use Rattle.rt_print.specs.declared.counts.TheConstants.{MAX_BITS}
use Rattle.rt_print.proofs.Counting.{AreCounts}
use Rattle.rt_print.proofs.counts.counts_of.Given as goal

-- the routes so far are counted; the last prefix is that of the route that was kept
abbrev pub invariant-loop-route : goal.invariant-loop-route
invariant-loop-route l =
    let rest = drop l.route-index l.routes in record {
      feeds : AreCounts (λ (r : Route). r.feed) MAX_FEEDS l.route-index l.routes l.feeds;
      lengths : AreCounts (λ (r : Route). r.prefix.len) MAX_BITS l.route-index l.routes l.lengths;
      prefixes : (l.prefixes + option_map_or (λ kept. prefix_count (kept.now ∷ rest)) l.last (1 + prefix_count rest) ≡ 1 + prefix_count l.routes)
          × (l.prefixes ≤ l.route-index);
    }
