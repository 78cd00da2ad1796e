use Rattle.rt_fib.specs.inside.Changes.{AreNumbersAfter}
use Rattle.rt_fib.proofs.slabs.Slabs.numbers_after.Given as goal

-- the numbers so far
abbrev pub invariant-numbers : goal.invariant-numbers
invariant-numbers g l = AreNumbersAfter l.self l.epoch.number l.change l.numbers l.after l.k
