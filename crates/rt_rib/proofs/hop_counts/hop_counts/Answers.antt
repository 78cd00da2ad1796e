use Rattle.std.proofs.Common.{rules, ◌≡◌, Bool, ap, sym, subst, arith}
use Rattle.std.specs.Prelude.{count_by}
use Rattle.std.specs.Map.{values_of}
use Rattle.rt_rib.specs.declared.routes.Hop.{Hop}
use Rattle.rt_rib.specs.declared.routes.Route.{Route}
use Rattle.rt_rib.specs.HopCounts.{uses_of, AreHopCounts}
use Rattle.rt_rib.specs.LookUp.{best_routes}
use Rattle.rt_rib.specs.Maps.{Map, routes_of}
use Rattle.rt_rib.specs.Selection.{same_hop}
use Rattle.rt_rib.specs.inside.HopMaps.{routes_with, first_routes}
use Rattle.rt_rib.proofs.FirstRoutes.{first_routes-best}
use Rattle.rt_rib.proofs.HopMaps.{are_counts}
use Rattle.rt_rib.proofs.hop_counts.hop_counts.Goals as goal

pub returns-clause-counts : goal.returns-clause-counts
returns-clause-counts g c =
    let counts = c.loop-offers.counts.entries in
    let done = c.loop-offers.invariant in
    let pairs = c.args.map.now.pairs in
    let uses : Hop → Route → Bool = λ hop r. same_hop r.hop hop in
    let listed : c.in_ok-collect.field-0.items ≡ values_of counts = search rules in
    let best : first_routes pairs ≡ best_routes (routes_of pairs) = rw (← c.map.view_is) (first_routes-best c.map.inside.trie.pairs c.map.invariant) in
    let same : (hop : Hop) → routes_with hop (values_of counts) ≡ uses_of hop (routes_of pairs) = λ hop.
    let none = ap (λ (m : Map). count_by (uses hop) (first_routes m)) c.in-None.ensures.steps.0 in
    let all = ap (count_by (uses hop)) best in
    omega (arith, done.routes hop, none, all) in
    subst (AreHopCounts (routes_of pairs)) (sym listed) (are_counts (routes_of pairs) counts done.keyed c.values.ensures.ordered done.some same)
