use Rattle.std.proofs.Common.{ap, ◌∙◌}
use Rattle.rt_rib.specs.Book.{TableState, table_state}
use Rattle.rt_rib.proofs.Promised.{withdrawn_rest}
use Rattle.rt_fib.proofs.purging.withdraw_each.Goals as goal

pub follow-requires-clause-others : goal.follow-requires-clause-others
follow-requires-clause-others g c =
    rw c.each.invariant.followed
    (c.commands_preserve_other_routes.ensures (table_state c.each.table) (table_state c.apply.new.self) c.args.feed _ _ c.in_ok-apply.ensures.ok)

pub each-preserved : goal.each-preserved
each-preserved g c = record {
  followed = c.in_ok-follow.ensures.ok;
  limit = ap (λ (s : TableState). s.limit) c.in_ok-apply.ensures.ok.changed ∙ c.each.invariant.limit;
  rest = withdrawn_rest (table_state c.each.table) (table_state c.apply.new.self) c.args.feed _ _ c.in_ok-apply.ensures.ok ∙ c.each.invariant.rest;
}

pub returns-in_err-follow-clause-rest : goal.returns-in_err-follow-clause-rest
returns-in_err-follow-clause-rest g c =
    withdrawn_rest (table_state c.each.table) (table_state c.apply.new.self) c.args.feed _ _ c.in_ok-apply.ensures.ok ∙ c.each.invariant.rest
