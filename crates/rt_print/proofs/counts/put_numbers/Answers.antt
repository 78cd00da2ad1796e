use Rattle.std.proofs.Common.{ℕ, length, refl, flat_map, get_or, arith, rules}
use Rattle.std.specs.List.{range_with_len}
use Rattle.std.proofs.lemmas.List.{take_all}
use Rattle.std.proofs.lemmas.List.FromFn.{length-range_with_len, get_or-range_with_len}
use Rattle.rt_print.specs.Counts.{count_as}
use Rattle.rt_print.specs.Styles.{label_of}
use Rattle.rt_print.specs.inside.Parts.{label_pairs}
use Rattle.rt_print.proofs.Writing.{appends_next, stops_all}
use Rattle.rt_print.proofs.counts.put_numbers.Goals as goal

pub returns-in_err-put_number : goal.returns-in_err-put_number
returns-in_err-put_number g c =
    let told = λ (k : ℕ). count_as c.args.syntax c.args.kind.now (label_of (label_pairs c.args.labels.now) k) (get_or c.args.counts.now k 0) in
    let all = length c.args.counts.now in
    let number = c.loop-number.number in
    stops_all (λ n. told) (λ n. flat_map told) (λ n. refl) (λ n x xs. refl) (range_with_len 0 all) number number
    (omega (arith, length-range_with_len 0 all)) (omega (arith, get_or-range_with_len 0 all number number c.loop-number-test.true))
    _ _ _ c.loop-number.invariant _ c.from_residual.ensures.0 (search rules)

pub loop-number-preserved : goal.loop-number-preserved
loop-number-preserved g c =
    let told = λ (k : ℕ). count_as c.args.syntax c.args.kind.now (label_of (label_pairs c.args.labels.now) k) (get_or c.args.counts.now k 0) in
    let all = length c.args.counts.now in
    let number = c.loop-number.number in
    appends_next (λ n. told) (λ n. flat_map told) (λ n. refl) (λ n x xs. refl) (range_with_len 0 all) number number
    (omega (arith, length-range_with_len 0 all)) (omega (arith, get_or-range_with_len 0 all number number c.loop-number-test.true))
    _ _ _ c.loop-number.invariant (search rules)

pub returns : goal.returns
returns g c =
    let all = length c.args.counts.now in
    record { ok = rw (take_all c.loop-number.number (range_with_len 0 all) (omega (arith, length-range_with_len 0 all))) at c.loop-number.invariant; err = tt }
