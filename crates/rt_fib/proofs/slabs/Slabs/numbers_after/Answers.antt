use Rattle.rt_fib.proofs.Changing.{numbers_more}
use Rattle.rt_fib.proofs.slabs.Slabs.numbers_after.Goals as goal

pub numbers-preserved : goal.numbers-preserved
numbers-preserved g c = numbers_more _ _ _ _ _ c.numbers.k _ c.numbers-test.true c.number_after.ensures c.numbers.invariant
