use Rattle.std.proofs.Common.{[], None, refl, ap, ◌∙◌}
use Rattle.std.specs.List.{filter}
use Rattle.rt_rib.specs.Selection.{is_by, is_via, selected}
use Rattle.rt_tables.specs.Unions.{union_of}
use Rattle.rt_tables.specs.inside.Tables.{asked_of}
use Rattle.rt_rib.proofs.Promised.{selected_by_filters}
use Rattle.rt_tables.proofs.Halves.{routes_of_each}
use Rattle.rt_tables.proofs.tables.TableUnion+Global.select.Goals as goal

pub returns : goal.returns
returns g c =
    let asked = c.args.asked.now in
    c.keep_hop.ensures ∙ ap (filter (is_via asked.hop)) (c.keep_feeds.ensures ∙ ap (filter (is_by asked.feeds.now)) c.in_ok-routes.ensures)
    ∙ selected_by_filters asked (asked_of asked.part asked.only_best [] None) (union_of (routes_of_each c.deref-2.result.now)) refl refl refl refl
    ∙ ap (λ l. selected asked (union_of (routes_of_each l))) c.deref-2.ensures.value ∙ ap (selected asked) c.self.view_is
