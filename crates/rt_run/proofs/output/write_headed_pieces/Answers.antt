use Rattle.rt_print.proofs.Promised.{stops_within, writes_after}
use Rattle.rt_run.proofs.output.write_headed_pieces.Goals as goal

pub returns-in_err-put : goal.returns-in_err-put
returns-in_err-put g c = stops_within _ _ _ _ _ c.from_residual.ensures.0 (rw c.rows_header.ensures at c.in_err-put.ensures.err)

pub returns : goal.returns
returns g c = writes_after _ _ _ _ _ _ (rw c.rows_header.ensures at c.in_ok-put.ensures.ok) c.write_pieces.ensures
