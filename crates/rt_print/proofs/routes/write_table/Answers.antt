use Rattle.rt_print.specs.Routes.{row_text, route_text, count_text}
use Rattle.rt_print.specs.Styles.{row_as}
use Rattle.rt_print.proofs.Writing.{stops_within, writes_after}
use Rattle.rt_print.proofs.routes.write_table.Goals as goal

pub returns-in_err-put : goal.returns-in_err-put
unfolding count_text
returns-in_err-put g c =
    stops_within _ _ _ _ _ c.from_residual.ensures.0
    (rw (c.as_bytes.ensures, c.prepend-2.ensures, c.prepend_decimal.ensures, c.prepend.ensures, c.new-text.ensures) at c.in_err-put.ensures.err)

pub returns : goal.returns
unfolding row_as row_text route_text count_text
returns g c =
    let first = rw (c.as_bytes.ensures, c.prepend-2.ensures, c.prepend_decimal.ensures, c.prepend.ensures, c.new-text.ensures) at c.in_ok-put.ensures.ok in
    writes_after _ _ _ _ _ _ first c.put_rows.ensures
