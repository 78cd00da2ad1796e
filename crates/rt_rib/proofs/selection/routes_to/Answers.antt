use Rattle.std.proofs.Common.{◌++◌, map, ap, sym, ◌∙◌}
use Rattle.rt_rib.specs.Maps.{route_by}
use Rattle.rt_rib.specs.inside.Maps.{offers_in}
use Rattle.rt_rib.proofs.Selections.{routes_at}
use Rattle.rt_rib.proofs.selection.routes_to.Goals.{in-Some+in_ok-append-in-Some, in-None}
use Rattle.rt_rib.proofs.selection.routes_to.Goals as goal

pub returns : goal.returns
returns g c =
    let p = c.args.prefix in
    let at = sym (routes_at p c.map.inside.trie.pairs c.map.invariant.ordered) in
    rw (← c.map.view_is) (elim c.match-get.branch [
      | in-Some+in_ok-append-in-Some w ↦
          rw w.routes-is
          (w.in_ok-append-in-Some.ensures ∙ ap (λ l. l ++ map (route_by p) w.as_slice.result.now) c.new-routes.ensures.items
          ∙ ap (map (route_by p)) (w.as_slice.ensures.offers ∙ ap offers_in w.in-Some.ensures) ∙ at)
      | in-None w ↦ rw w.routes-is (c.new-routes.ensures.items ∙ ap (λ o. map (route_by p) (offers_in o)) w.in-None.ensures ∙ at)
    ])
