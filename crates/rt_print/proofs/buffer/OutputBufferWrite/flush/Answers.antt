use Rattle.std.proofs.Common.{ℕ, arith, ap, ◌∙◌, length, length-drop}
use Rattle.std.proofs.lemmas.List.{drop_all}
use Rattle.std.proofs.lemmas.Result.{on_ok_weaker, on_err_weaker}
use Rattle.rt_print.proofs.buffer.OutputBufferWrite.flush.Goals as goal

-- if everything was written, nothing remains
pub returns-clause-ok : goal.returns-clause-ok
returns-clause-ok g c =
    let wrote = c.put_counted-written in
    on_ok_weaker wrote.result.1
    (λ all. c.remove_front.ensures ∙ drop_all wrote.result.0 _ (omega (arith, all, ap length c.as_slice.ensures.value))) wrote.ensures.all

-- if not everything was written, something remains
pub returns-clause-err : goal.returns-clause-err
returns-clause-err g c =
    let wrote = c.put_counted-written in
    on_err_weaker wrote.result.1
    (λ less. omega (arith, less, ap length c.remove_front.ensures, length-drop {A = ℕ}, ap length c.as_slice.ensures.value)) wrote.ensures.less
