use Rattle.rt_run.proofs.Answering.{answers_stop}
use Rattle.rt_run.proofs.rows.write_piece.Goals as goal

pub returns-in_err-write_lookup : goal.returns-in_err-write_lookup
returns-in_err-write_lookup g c =
    answers_stop c.args.style.now c.args.tables.now c.args.piece.now c.look_up_by.new.answers c.loop-index.index
    (record { 0 = 0 }) c.index-found-index.result c.loop-index-test.true c.index-found-index.is c.look_up_by.ensures
    _ _ _ _ c.loop-index.invariant c.from_residual.ensures.0 c.in_err-write_lookup.ensures.err
