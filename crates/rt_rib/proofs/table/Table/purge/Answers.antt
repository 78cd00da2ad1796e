use Rattle.std.proofs.Common.{◌∙◌}
use Rattle.rt_rib.specs.Book.{table_state}
use Rattle.rt_rib.proofs.PurgeSteps.{purged_limit, purged_routes, serves_purge}
use Rattle.rt_rib.proofs.table.Table.purge.Goals as goal
use Rattle.rt_rib.proofs.table.Table.purge.Goals.{then-gone-len, else-gone-len}

pub returns : goal.returns
returns g c =
    let before = c.args.self.now in
    let after = c.purge_rest.new.self in
    let limit = purged_limit (table_state c.if-gone-len.self) (table_state after) c.args.feed _ c.purge_rest.ensures in
    let routes = purged_routes (table_state c.if-gone-len.self) (table_state after) c.args.feed _ c.purge_rest.ensures in
    elim c.if-gone-len.branch [
      | then-gone-len w ↦
          serves_purge before.limit after.limit c.args.feed c.count-gone.result before.routes after.routes c.count-gone.ensures
          (rw (w.self-is) at limit ∙ w.withdraw_marked.ensures.limit) (rw (w.self-is) at routes ∙ w.withdraw_marked.ensures.rest)
      | else-gone-len w ↦
          serves_purge before.limit after.limit c.args.feed c.count-gone.result before.routes after.routes c.count-gone.ensures
          (rw (w.self-is) at limit) (rw (w.self-is) at routes)
    ]
