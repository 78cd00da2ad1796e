use Rattle.std.proofs.Common.{flat_map, refl, rules}
use Rattle.rt_print.specs.ChangeCounts.{count_line}
use Rattle.rt_print.proofs.ChangeMaps.{count_at}
use Rattle.rt_print.proofs.Writing.{appends_next, stops_all}
use Rattle.rt_print.proofs.change_counts.put_counts.Goals as goal

pub returns-in_err-put_count : goal.returns-in_err-put_count
returns-in_err-put_count g c =
    let told = count_line c.args.syntax in
    stops_all (λ n. told) (λ n. flat_map told) (λ n. refl) (λ n x xs. refl) c.args.counts.now c.loop-count.count-index _
    c.loop-count-test.true (count_at c.args.counts.now c.loop-count.count-index c.loop-count-test.true) _ _ _ c.loop-count.invariant _ c.from_residual.ensures.0 (search rules)

pub loop-count-preserved : goal.loop-count-preserved
loop-count-preserved g c =
    let told = count_line c.args.syntax in
    appends_next (λ n. told) (λ n. flat_map told) (λ n. refl) (λ n x xs. refl) c.args.counts.now c.loop-count.count-index _
    c.loop-count-test.true (count_at c.args.counts.now c.loop-count.count-index c.loop-count-test.true) _ _ _ c.loop-count.invariant (search rules)
