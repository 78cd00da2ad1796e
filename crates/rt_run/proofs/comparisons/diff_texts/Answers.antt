use Rattle.std.proofs.Common.{◌≡◌, length, drop, ap, arith}
use Rattle.rt_run.specs.DiffText.{diff_text, IsDiffText}
use Rattle.rt_run.specs.declared.tallies.RunSummary.{RunSummary}
use Rattle.rt_run.specs.RunText.{in_batches}
use Rattle.rt_run.specs.TableText.{IsGivenBack}
use Rattle.rt_run.proofs.GivenBack.{if_written}
use Rattle.rt_run.proofs.Outputs.{writes_or_fails}
use Rattle.rt_run.proofs.Comparing.{are_printed, these_differ, lines-empty}
use Rattle.rt_run.proofs.comparisons.diff_texts.Goals as goal

pub write_differences-requires-clause-empty : goal.write_differences-requires-clause-empty
write_differences-requires-clause-empty g c lifetimes outlive =
    rw c.as_slice.ensures.value (lines-empty c.args.options.now _ _ _ (these_differ (c.in_ok-differences.ensures.compared 1 1 (omega arith) (omega arith))))

pub returns-clause-text : goal.returns-clause-text
returns-clause-text g c old_batch new_batch old_some new_some =
    let asked = c.args.options.now in
    let old_asked = in_batches old_batch c.args.old_input.now in
    let new_asked = in_batches new_batch c.args.new_input.now in
    let text = diff_text asked c.as_slice.result.now in
    writes_or_fails (IsDiffText asked old_asked new_asked) text _ _ _ c.write_differences.result
    (are_printed (c.in_ok-differences.ensures.compared old_batch new_batch old_some new_some)
    (λ list. text ≡ diff_text asked list) (ap (diff_text asked) c.as_slice.ensures.value))
    c.write_differences.ensures

pub returns-clause-old_given_back : goal.returns-clause-old_given_back
returns-clause-old_given_back g c =
    if_written (λ (given : RunSummary). IsGivenBack c.args.old_input.now given.tallies.items c.compare.new.old_input)
    (diff_text c.args.options.now c.as_slice.result.now) _ _ _ c.write_differences.result
    c.in_ok-differences.ensures.old_given_back c.write_differences.ensures

pub returns-clause-new_given_back : goal.returns-clause-new_given_back
returns-clause-new_given_back g c =
    if_written (λ (given : RunSummary). IsGivenBack c.args.new_input.now (drop (length c.args.old_input.now.texts) given.tallies.items) c.compare.new.new_input)
    (diff_text c.args.options.now c.as_slice.result.now) _ _ _ c.write_differences.result
    c.in_ok-differences.ensures.new_given_back c.write_differences.ensures
