use Rattle.rt_fib.proofs.Placing.{same_keep}
use Rattle.rt_fib.proofs.Leading.{all_keep}
use Rattle.rt_fib.proofs.fib.Fib.copy.Goals as goal

pub invariant_of-result : goal.invariant_of-result
invariant_of-result g c =
    let keeps = same_keep c.self.inside.dir.epoch.number _ _ c.in_ok-slabs.ensures in
    rw (c.in_ok-tbl24.ensures.items, c.deref.ensures.value, c.of.ensures, ← c.requires, ← c.self.view_is) (all_keep _ _ _ _ _ _ keeps c.self.invariant)
