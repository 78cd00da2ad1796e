use Rattle.std.proofs.Common.{List, [], subst, sym, ap, ◌≡◌, ◌∙◌}
use Rattle.std.specs.Prelude.{option_to_list}
use Rattle.rt_rib.specs.declared.routes.Route.{Route}
use Rattle.rt_rib.specs.Book.{TableState}
use Rattle.rt_rib.specs.Changes.{best_to, AreBestChanges}
use Rattle.rt_rib.specs.inside.Changes.{AreBestRoutes, ReturnsBest}
use Rattle.rt_rib.specs.Sequential.{table_after}
use Rattle.rt_rib.proofs.BestTo.{nothing_changed}
use Rattle.rt_rib.proofs.table.Table.apply_changed.Goals as goal

pub returns-in_default-best-clause-changes : goal.returns-in_default-best-clause-changes
returns-in_default-best-clause-changes g c =
    let old = c.args.self.now in
    let new = c.change.new.self in
    let prefix = c.in-Some.prefix in
    let told = (rw (← c.in-Some.ensures) at c.in_ok-reply.ensures.best) in
    let same : new.routes ≡ old.routes = subst (ReturnsBest prefix old.routes new.routes) c.in_default-best.is told in
    subst (λ (t : List Route). AreBestChanges old.routes t []) (sym same) (nothing_changed old.routes)

pub returns-clause-changes : goal.returns-clause-changes
returns-clause-changes g c =
    let old = c.args.self.now in
    let new = c.change.new.self in
    let prefix = c.in-Some.prefix in
    let told = (rw (← c.in-Some.ensures) at c.in_ok-reply.ensures.best) in
    let best : AreBestRoutes prefix old.routes new.routes c.in-Some-best.best =
    subst (ReturnsBest prefix old.routes new.routes) c.in-Some-best.is told in
    let after : new.routes ≡ table_after old.limit old.routes c.args.feed c.args.cmd =
    ap (λ (s : TableState). s.routes) c.in_ok-reply.ensures.ok.changed in
    subst (λ (t : List Route). AreBestChanges old.routes t (option_to_list c.of.result)) (sym after)
    (c.of.ensures old.limit c.args.feed c.args.cmd old.routes c.holds.ensures.once (sym c.in-Some.ensures) best.before
    (best.after ∙ ap (best_to prefix) after))
