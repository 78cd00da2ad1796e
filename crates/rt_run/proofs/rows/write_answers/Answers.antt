use Rattle.std.proofs.Common.{◌≡◌, ◌++◌, sym, take-append-drop}
use Rattle.rt_cidr.proofs.Promised.{appends_after}
use Rattle.rt_print.proofs.Promised.{breaks_off}
use Rattle.rt_run.specs.inside.Outputs.{found_text}
use Rattle.rt_run.proofs.Answering.{answers_grow, answers_begin}
use Rattle.rt_run.proofs.rows.write_answers.Goals as goal

pub returns-in_err-write_piece : goal.returns-in_err-write_piece
returns-in_err-write_piece g c =
    let cut : c.loop-rest.rest.now ≡ c.split_at.result.0.now ++ c.split_at.result.1.now =
    rw (c.split_at.ensures.front, c.split_at.ensures.back) (sym (take-append-drop c.min.result c.loop-rest.rest.now)) in
    breaks_off _ _ _ _ c.from_residual.ensures.0 (answers_begin c.args.style.now c.args.tables.now c.args.addresses.now
    c.loop-rest.rest.now c.split_at.result.0.now c.split_at.result.1.now c.loop-rest.invariant.text c.loop-rest.invariant.whole
    cut _ _ _ c.loop-rest.invariant.written c.in_err-write_piece.ensures.err)

pub loop-rest-preserved : goal.loop-rest-preserved
loop-rest-preserved g c =
    let table = c.args.tables.now in
    let cut : c.loop-rest.rest.now ≡ c.split_at.result.0.now ++ c.split_at.result.1.now =
    rw (c.split_at.ensures.front, c.split_at.ensures.back) (sym (take-append-drop c.min.result c.loop-rest.rest.now)) in
    record {
      text = c.loop-rest.invariant.text ++ found_text c.args.style.now c.split_at.result.0.now table;
      written = appends_after _ _ _ c.loop-rest.invariant.text
          (found_text c.args.style.now c.split_at.result.0.now table) c.loop-rest.invariant.written c.in_ok-write_piece.ensures.ok;
      whole = answers_grow c.args.style.now table c.args.addresses.now c.loop-rest.rest.now
          c.split_at.result.0.now c.split_at.result.1.now c.loop-rest.invariant.text c.loop-rest.invariant.whole cut;
    }
