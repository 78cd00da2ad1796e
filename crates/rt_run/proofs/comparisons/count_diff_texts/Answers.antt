use Rattle.std.proofs.Common.{length, drop, refl, arith}
use Rattle.rt_print.specs.ChangeCounts.{change_counts_as}
use Rattle.rt_run.specs.DiffText.{IsCountText, TellsCounts}
use Rattle.rt_run.specs.declared.tallies.RunSummary.{RunSummary}
use Rattle.rt_run.specs.RunText.{in_batches}
use Rattle.rt_run.specs.TableText.{IsGivenBack}
use Rattle.rt_run.proofs.GivenBack.{if_written}
use Rattle.rt_run.proofs.Outputs.{writes_or_fails}
use Rattle.rt_run.proofs.Comparing.{are_printed, these_differ, sizes_fit, each_some, sums_fit}
use Rattle.rt_run.proofs.comparisons.count_diff_texts.Goals as goal

pub count_changes-requires : goal.count_changes-requires
count_changes-requires g c =
    let differ = these_differ (c.in_ok-differences.ensures.compared 1 1 (omega arith) (omega arith)) in
    rw c.as_slice.ensures.value (record { fits = sizes_fit differ; some = each_some differ })

pub write_numbers-requires : goal.write_numbers-requires
write_numbers-requires g c =
    let differ = these_differ (c.in_ok-differences.ensures.compared 1 1 (omega arith) (omega arith)) in
    let fit = sums_fit differ (rw c.as_slice.ensures.value at c.in_ok-counts.ensures) in
    rw c.as_slice-2.ensures.value (record { new = c.in_ok-room.ensures; ranges = fit.0; addresses = fit.1 })

pub returns-clause-text : goal.returns-clause-text
returns-clause-text g c old_batch new_batch old_some new_some =
    let asked = c.args.options.now in
    let old_asked = in_batches old_batch c.args.old_input.now in
    let new_asked = in_batches new_batch c.args.new_input.now in
    let text = change_counts_as asked c.as_slice-2.result.now in
    writes_or_fails (IsCountText asked old_asked new_asked) text _ _ _ c.write_numbers.result
    (are_printed (c.in_ok-differences.ensures.compared old_batch new_batch old_some new_some)
    (λ list. TellsCounts asked list text)
    (record { counts = c.as_slice-2.result.now; counted = rw (c.as_slice-2.ensures.value, ← c.as_slice.ensures.value) c.in_ok-counts.ensures; printed = refl }))
    c.write_numbers.ensures

pub returns-clause-old_given_back : goal.returns-clause-old_given_back
returns-clause-old_given_back g c =
    if_written (λ (given : RunSummary). IsGivenBack c.args.old_input.now given.tallies.items c.compare.new.old_input)
    (change_counts_as c.args.options.now c.as_slice-2.result.now) _ _ _ c.write_numbers.result
    c.in_ok-differences.ensures.old_given_back c.write_numbers.ensures

pub returns-clause-new_given_back : goal.returns-clause-new_given_back
returns-clause-new_given_back g c =
    if_written (λ (given : RunSummary). IsGivenBack c.args.new_input.now (drop (length c.args.old_input.now.texts) given.tallies.items) c.compare.new.new_input)
    (change_counts_as c.args.options.now c.as_slice-2.result.now) _ _ _ c.write_numbers.result
    c.in_ok-differences.ensures.new_given_back c.write_numbers.ensures
