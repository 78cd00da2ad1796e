use Rattle.rt_fib.specs.inside.Changes.{ArePut}
use Rattle.rt_fib.proofs.filling.put_entries.Given as goal

abbrev pub invariant-put : goal.invariant-put
invariant-put l = ArePut l.fn.entries l.entries l.fresh l.first l.k
