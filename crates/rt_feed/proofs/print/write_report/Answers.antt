use Rattle.std.proofs.Common.{append-nil}
use Rattle.std.proofs.lemmas.Result.{err_from_is_err_and}
use Rattle.rt_feed.specs.Printed.{line_text}
use Rattle.rt_print.proofs.Promised.{stops_in_one}
use Rattle.rt_feed.proofs.print.write_report.Goals as goal

pub returns-in_err-put : goal.returns-in_err-put
returns-in_err-put g c =
    let fault = err_from_is_err_and c.from_residual.result c.from_residual.ensures.1 in
    let begun = rw (c.as_bytes.ensures, c.prepend_line.ensures, c.clear.ensures, append-nil) at c.in_err-put.ensures.err in
    rw (← c.lines-line-items.ensures.lines)
    (stops_in_one (line_text c.args.feed) _ _ _ _ c.loop-line-test.true c.line-item.is _ _ _ c.loop-line.invariant _ _ fault.1 begun)
