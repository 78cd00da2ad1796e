use Rattle.std.proofs.Common.{ap, ◌∙◌}
use Rattle.rt_rib.specs.Book.{TableState, table_state}
use Rattle.rt_rib.proofs.PurgeSteps.{withdrawn_rest}
use Rattle.rt_rib.proofs.table.Table.withdraw_marked.Goals as goal

pub each-preserved : goal.each-preserved
each-preserved g c =
    let v = c.each.invariant in
    record {
      limit = ap (λ (s : TableState). s.limit) c.withdraw.ensures.served.changed ∙ v.limit;
      rest = withdrawn_rest (table_state c.each.self) (table_state c.withdraw.new.self) c.args.feed c.in-Some.prefix _ c.withdraw.ensures.served ∙ v.rest;
    }
