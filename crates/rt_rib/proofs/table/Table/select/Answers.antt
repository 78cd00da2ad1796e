use Rattle.std.proofs.Common.{List, subst, sym, ap, ◌∙◌}
use Rattle.std.specs.Prelude.{if◌then◌else◌}
use Rattle.std.specs.List.{filter}
use Rattle.rt_rib.specs.declared.routes.Route.{Route}
use Rattle.rt_rib.specs.LookUp.{best_routes}
use Rattle.rt_rib.specs.Maps.{routes_of}
use Rattle.rt_rib.specs.Selection.{is_in, is_by, is_via}
use Rattle.rt_rib.specs.Table.{IsTable}
use Rattle.rt_rib.proofs.BestRoutes.{IsTable-passing}
use Rattle.rt_rib.proofs.Selections.{selected_of_part}
use Rattle.rt_rib.proofs.table.Table.select.Goals as goal

pub keep_selected-requires : goal.keep_selected-requires
keep_selected-requires g c =
    subst IsTable (sym c.in_ok-routes.ensures)
    (IsTable-passing (is_in c.args.asked.now.part) (routes_of c.self.inside.map.pairs) c.self.invariant.table)

pub returns : goal.returns
returns g c =
    let asked = c.args.asked.now in
    let kept : List Route → List Route = λ routes. filter (is_via asked.hop) (filter (is_by asked.feeds.now) (if asked.only_best then best_routes routes else routes)) in
    rw (← c.self.view_is)
    (c.keep_selected.ensures ∙ ap kept c.in_ok-routes.ensures
    ∙ selected_of_part asked (routes_of c.self.inside.map.pairs) c.self.invariant.table)
