use Rattle.std.proofs.Common.{◌≡◌, length, ◌∙◌, ap, arith}
use Rattle.rt_run.specs.declared.tallies.RunSummary.{RunSummary}
use Rattle.rt_run.specs.RunText.{in_batches}
use Rattle.rt_run.specs.TableText.{tallies_status, IsAnswer, IsGivenBack}
use Rattle.rt_run.specs.inside.Outputs.{AddsTally}
use Rattle.rt_run.proofs.Outputs.{writes_or_fails, is_answer}
use Rattle.rt_run.proofs.GivenBack.{given_with_more, if_written}
use Rattle.rt_run.proofs.queries.show.Goals as goal

pub returns-clause-text : goal.returns-clause-text
returns-clause-text g c batch some =
    let asked = in_batches batch c.args.input.now in
    let question = c.args.question.now in
    let told : AddsTally question c.in_ok-tables.tallies.items c.in_ok-tallies.tallies.items = c.in_ok-tallies.ensures {u = tt} in
    let given : RunSummary = record { status = c.tallies_status-status.result; tallies = c.in_ok-tallies.tallies } in
    let is = is_answer asked c.args.style.now question _ c.in_ok-tables.tallies.items told.rows told.others given told.asks (c.in_ok-tables.ensures.ran batch some)
    told.added (c.tallies_status-status.ensures ∙ ap tallies_status c.as_slice.ensures.value) in
    writes_or_fails (IsAnswer asked c.args.style.now question) _ _ _ _ c.write_answer-told.result is (c.write_answer-told.ensures told.rows told.others told.asks)

pub returns-clause-given_back : goal.returns-clause-given_back
returns-clause-given_back g c =
    let input = c.args.input.now in
    let question = c.args.question.now in
    let told : AddsTally question c.in_ok-tables.tallies.items c.in_ok-tallies.tallies.items = c.in_ok-tallies.ensures {u = tt} in
    let counted : length c.in_ok-tables.tallies.items ≡ length input.texts = omega (arith, c.in_ok-tables.ensures.tallies, c.in_ok-tables.tallies.ok.0) in
    let is = given_with_more input c.in_ok-tables.tallies.items _ _ c.run_on_threads.new.input counted told.added c.in_ok-tables.ensures.given_back in
    if_written (λ (given : RunSummary). IsGivenBack input given.tallies.items c.run_on_threads.new.input) _ _ _ _ c.write_answer-told.result is
    (c.write_answer-told.ensures told.rows told.others told.asks)
