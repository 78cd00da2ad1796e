use Rattle.rt_fib.proofs.slab.Slab.reuse_if_same.Goals as goal

pub returns-clause-number : goal.returns-clause-number
returns-clause-number g c = λ yes.
    let used = rw (c.is_same.ensures.0 c.if-not-is_same.false) at c.in-Some.ensures in
    record { short = used.short; has = c.mark_used.ensures.marked _ _ used.has }
