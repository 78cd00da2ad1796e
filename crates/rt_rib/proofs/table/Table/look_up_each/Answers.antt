use Rattle.std.proofs.Common.{ap, ◌∙◌}
use Rattle.rt_rib.specs.inside.Maps.{look_up_each}
use Rattle.rt_rib.specs.Book.{TableContents}
use Rattle.rt_rib.proofs.table.Table.look_up_each.Goals as goal

pub returns : goal.returns
returns g c =
    c.best_of_each.ensures ∙ ap (λ (t : TableContents). look_up_each c.args.addresses.now t.routes) c.self.view_is
