use Rattle.std.proofs.Common.{◌≡◌, ◌++◌, [], refl, arith, rules}
use Rattle.std.proofs.lemmas.List.{nil_from_length}
use Rattle.std.specs.List.{flat_map}
use Rattle.rt_cidr.proofs.Promised.{appends_after}
use Rattle.rt_print.specs.Styles.{invalid_as}
use Rattle.rt_print.proofs.Promised.{breaks_off, stops_within, writes_after}
use Rattle.rt_run.proofs.InvalidLines.{parts_grow, begins_in_piece, begins_in_line}
use Rattle.rt_run.proofs.output.write_with_invalid.Goals as goal

pub returns-in_err-put : goal.returns-in_err-put
returns-in_err-put g c = stops_within _ _ _ _ _ c.from_residual.ensures.0 c.in_err-put.ensures.err

pub loop-line-init : goal.loop-line-init
loop-line-init g c = record { text = c.args.header.now; written = c.in_ok-put.ensures.ok; whole = refl }

pub returns-in_err-write_on_threads : goal.returns-in_err-write_on_threads
returns-in_err-write_on_threads g c =
    let text_of = flat_map (g.P.Rows.row_of c.args.rows.now) in
    breaks_off _ _ _ _ c.from_residual-in_err-write_on_threads.ensures.0
    (begins_in_piece c.args.style.now.syntax text_of c.loop-line.done c.loop-line.rest.now _ _ c.loop-line.lines.now c.in-Some.later.now c.in-Some.line.now _ _ c.loop-line.invariant.whole (search rules) _
    (omega (arith, c.min.ensures, c.saturating_sub.ensures)) c.split_at.ensures.front c.split_at.ensures.back
    _ _ _ c.loop-line.invariant.written c.in_err-write_on_threads.ensures.err)

pub returns-in_err-write_invalid_line : goal.returns-in_err-write_invalid_line
returns-in_err-write_invalid_line g c =
    let text_of = flat_map (g.P.Rows.row_of c.args.rows.now) in
    breaks_off _ _ _ _ c.from_residual-in_err-write_invalid_line.ensures.0
    (begins_in_line c.args.style.now.syntax text_of c.loop-line.done c.loop-line.rest.now _ _ c.loop-line.lines.now c.in-Some.later.now c.in-Some.line.now _ _ c.loop-line.invariant.whole (search rules) _
    (omega (arith, c.min.ensures, c.saturating_sub.ensures)) c.split_at.ensures.front c.split_at.ensures.back
    _ _ _ c.loop-line.invariant.written _ c.in_ok-write_on_threads.ensures.ok c.in_err-write_invalid_line.ensures.err)

pub loop-line-preserved : goal.loop-line-preserved
loop-line-preserved g c =
    let text_of = flat_map (g.P.Rows.row_of c.args.rows.now) in
    record {
      text = (c.loop-line.invariant.text ++ text_of c.split_at.result.0.now) ++ invalid_as c.args.style.now.syntax c.in-Some.line.now.number;
      written = appends_after _ _ _ _ _ (appends_after _ _ _ _ _ c.loop-line.invariant.written c.in_ok-write_on_threads.ensures.ok) c.in_ok-write_invalid_line.ensures.ok;
      whole = parts_grow c.args.style.now.syntax text_of c.loop-line.done c.loop-line.rest.now _ _ c.loop-line.lines.now c.in-Some.later.now c.in-Some.line.now _ _ c.loop-line.invariant.whole (search rules) _
          (omega (arith, c.min.ensures, c.saturating_sub.ensures)) c.split_at.ensures.front c.split_at.ensures.back;
    }

pub returns : goal.returns
returns g c =
    let none : c.loop-line.lines.now ≡ [] = nil_from_length c.loop-line.lines.now c.in_default.ensures.cases in
    rw (← (rw none at c.loop-line.invariant.whole)) (writes_after _ _ _ _ _ _ c.loop-line.invariant.written c.write_on_threads-2.ensures)
