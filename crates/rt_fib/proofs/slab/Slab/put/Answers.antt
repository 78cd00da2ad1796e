use Rattle.std.proofs.Common.{sym, arith}
use Rattle.rt_fib.proofs.Placing.{append_fills, filled_fills, value_set}
use Rattle.rt_fib.proofs.slab.Slab.put.Goals as goal

pub returns-in-Some-clause-fills : goal.returns-in-Some-clause-fills
returns-in-Some-clause-fills g c =
    let free = rw c.as_slice.ensures.value at c.in-Some.ensures in
    rw (← c.self.view_is, c.in_ok-push.ensures.items)
    (filled_fills _ _ _ _ _ free.unused)

pub returns-in-Some-clause-put : goal.returns-in-Some-clause-put
returns-in-Some-clause-put g c =
    let free = rw c.as_slice.ensures.value at c.in-Some.ensures in
    rw (← c.self.view_is) (sym (value_set _ _ _ (omega (arith, free.within, c.self.invariant))))

pub returns-clause-fills : goal.returns-clause-fills
returns-clause-fills g c =
    rw (← c.self.view_is, c.in_ok-push-2.ensures.items, c.in_ok-push-3.ensures.items, c.reserve.ensures.items) (append_fills _ _ _ _ c.self.invariant)
