use Rattle.std.proofs.Common.{arith}
use Rattle.rt_fib.proofs.Placing.{fills_kept, keeps_same, keeps_twice}
use Rattle.rt_fib.proofs.Leading.{whole_on}
use Rattle.rt_fib.proofs.slabs.Slabs.mark_number.Goals as goal

pub returns-then-entry-last-clause-leads : goal.returns-then-entry-last-clause-leads
returns-then-entry-last-clause-leads g c =
    whole_on _ _ _ c.args.entry c.requires (λ answer has. c.mark_used.ensures.marked c.args.epoch.number answer has)

pub returns-clause-keeps : goal.returns-clause-keeps
returns-clause-keeps g c = record {
  groups = keeps_same _ _;
  routes = keeps_twice _ _ _ _ (fills_kept _ _ _ c.reuse_if_same.ensures.fills) c.mark_used-2.ensures.keeps;
  codes = λ coded. rw (c.mark_used-2.ensures.values, c.reuse_if_same.ensures.values) coded;
}

pub returns-clause-leads : goal.returns-clause-leads
returns-clause-leads g c =
    let again = fills_kept _ _ _ c.reuse_if_same.ensures.fills in
    whole_on _ _ _ c.args.entry c.requires
    (λ answer has. c.mark_used-2.ensures.marked c.args.epoch.number answer (again.each c.args.epoch.number c.args.entry answer (omega arith) has))
