use Rattle.std.proofs.Common.{arith}
use Rattle.rt_fib.proofs.Placing.{back_keep}
use Rattle.rt_fib.proofs.Leading.{all_keep, lent_whole, renewed_all}
use Rattle.rt_fib.proofs.fib.Fib.refill.Goals as goal

pub invariant_of-self : goal.invariant_of-self
invariant_of-self g c = all_keep _ _ _ _ _ _ (back_keep _ _ _ c.in_err-fresh.ensures.back) c.self.invariant

pub mark-requires : goal.mark-requires
mark-requires g c =
    let tbl24 = c.self.inside.dir.tbl24 in
    let fresh = rw c.as_slice.ensures.value at c.put_entries.ensures in
    let put = rw c.as_mut_slice.ensures.value at fresh in
    let whole = lent_whole tbl24.items c.put_entries.new.entries tbl24.len (omega arith) put.size in
    rw (whole, c.of.ensures)
    (renewed_all c.args.prefix c.span_of-span.result _ _ _ _ _ _ _ _ _ c.span_of-span.ensures c.self.invariant c.in_ok-fresh.ensures.keeps put
    c.in_ok-fresh.ensures.entries (rw (← c.self.view_is) at c.requires))
