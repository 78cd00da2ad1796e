use Rattle.rt_fib.proofs.Placing.{same_keep}
use Rattle.rt_fib.proofs.Leading.{all_from, all_keep}
use Rattle.rt_fib.proofs.fib.Fib.new.Goals as goal

pub invariant_of-result : goal.invariant_of-result
invariant_of-result g c =
    let coded = c.in_ok-tbl24.ensures.keeps.codes c.empty-slabs.ensures in
    rw c.of.ensures (all_keep _ _ _ _ _ _ (same_keep _ _ _ c.reserve_waste.ensures) (all_from _ _ _ coded c.in_ok-tbl24.ensures.entries))
