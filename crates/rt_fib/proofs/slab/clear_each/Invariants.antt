use Rattle.rt_fib.specs.inside.Slab.{AreCleared}
use Rattle.rt_fib.proofs.slab.clear_each.Given as goal

-- the first `k` of the log's places are cleared
abbrev pub invariant-clear : goal.invariant-clear
invariant-clear l = AreCleared l.fn.epochs l.epochs l.log l.k
