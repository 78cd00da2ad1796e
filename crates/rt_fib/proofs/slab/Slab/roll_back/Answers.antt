use Rattle.std.proofs.Common.{arith}
use Rattle.rt_fib.proofs.Placing.{back_again}
use Rattle.rt_fib.proofs.Leading.{lent_whole}
use Rattle.rt_fib.proofs.slab.Slab.roll_back.Goals as goal

pub returns-clause-back : goal.returns-clause-back
returns-clause-back g c = λ epoch start size fills.
    let listed = rw c.as_slice.ensures.value at c.clear_each.ensures in
    let are = rw c.as_mut_slice.ensures.value at listed in
    let epochs = c.self.inside.epochs in
    let whole = lent_whole epochs.items c.clear_each.new.epochs epochs.len (omega arith) are.size in
    rw (c.truncate.ensures.items, c.truncate-2.ensures.items, whole)
    (back_again epoch c.args.count start _ c.clear_each.new.epochs size (rw (← c.self.view_is) at fills) are)
