use Rattle.rt_fib.proofs.Placing.{back_keep}
use Rattle.rt_fib.proofs.Leading.{all_keep}
use Rattle.rt_fib.proofs.Others.{outside_stays}
use Rattle.rt_fib.proofs.fib.Fib.renew.Goals as goal

pub refill-requires : goal.refill-requires
refill-requires g c = outside_stays c.args.prefix c.args.self.now c.args.table.now.routes c.look_up_finds_best.ensures c.requires.once c.holds.ensures.once c.requires.others

pub invariant_of-self-in_err-number : goal.invariant_of-self-in_err-number
invariant_of-self-in_err-number g c = all_keep _ _ _ _ _ _ (back_keep _ _ _ c.in_err-number.ensures.back) c.self.invariant

pub change_entries-requires-clause-right : goal.change_entries-requires-clause-right
change_entries-requires-clause-right g c = all_keep _ _ _ _ _ _ c.in_ok-number.ensures.keeps c.self.invariant
