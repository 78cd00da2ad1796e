use Rattle.rt_print.specs.ChangeCounts.{change_counts_as}
use Rattle.rt_print.proofs.Writing.{stops_within, writes_after}
use Rattle.rt_print.proofs.change_counts.write_change_counts.Goals as goal

pub returns-in_err-put_number : goal.returns-in_err-put_number
unfolding change_counts_as
returns-in_err-put_number g c =
    let sums = c.sums_of-ranges.ensures in
    stops_within _ _ _ _ _ c.from_residual.ensures.0 (rw (c.syntax-syntax.ensures, sums.ranges, sums.addresses) at c.in_err-put_number.ensures.err)

pub returns-in_err-put_kinds : goal.returns-in_err-put_kinds
unfolding change_counts_as
returns-in_err-put_kinds g c =
    let sums = c.sums_of-ranges.ensures in
    writes_after _ _ _ _ _ _ (rw (c.syntax-syntax.ensures, sums.ranges, sums.addresses) at c.in_ok-put_number.ensures.ok)
    (stops_within _ _ _ _ _ c.from_residual-in_err-put_kinds.ensures.0 (rw c.syntax-syntax.ensures at c.in_err-put_kinds.ensures.err))

pub returns : goal.returns
unfolding change_counts_as
returns g c =
    let sums = c.sums_of-ranges.ensures in
    writes_after _ _ _ _ _ _ (rw (c.syntax-syntax.ensures, sums.ranges, sums.addresses) at c.in_ok-put_number.ensures.ok)
    (writes_after _ _ _ _ _ _ (rw c.syntax-syntax.ensures at c.in_ok-put_kinds.ensures.ok) (rw c.syntax-syntax.ensures at c.put_counts.ensures))
