use Rattle.std.proofs.Common.{flat_map, refl, arith, rules}
use Rattle.std.specs.List.{range_with_len}
use Rattle.std.proofs.lemmas.List.{take_all}
use Rattle.std.proofs.lemmas.List.FromFn.{length-range_with_len, get_or-range_with_len}
use Rattle.rt_print.specs.declared.change_counts.TheConstants.{KINDS}
use Rattle.rt_print.specs.ChangeCounts.{kind_as}
use Rattle.rt_print.proofs.Writing.{appends_next, stops_all}
use Rattle.rt_print.proofs.change_counts.put_kinds.Goals as goal

pub returns-in_err-put_kind : goal.returns-in_err-put_kind
returns-in_err-put_kind g c =
    let told = kind_as c.args.syntax c.args.counts.now in
    let kind = c.loop-kind.kind in
    stops_all (λ n. told) (λ n. flat_map told) (λ n. refl) (λ n x xs. refl) (range_with_len 0 KINDS) kind kind
    (omega (arith, length-range_with_len 0 KINDS, c.loop-kind-test.true)) (omega (arith, get_or-range_with_len 0 KINDS kind kind c.loop-kind-test.true))
    _ _ _ c.loop-kind.invariant _ c.from_residual.ensures.0 (search rules)

pub loop-kind-preserved : goal.loop-kind-preserved
loop-kind-preserved g c =
    let told = kind_as c.args.syntax c.args.counts.now in
    let kind = c.loop-kind.kind in
    appends_next (λ n. told) (λ n. flat_map told) (λ n. refl) (λ n x xs. refl) (range_with_len 0 KINDS) kind kind
    (omega (arith, length-range_with_len 0 KINDS, c.loop-kind-test.true)) (omega (arith, get_or-range_with_len 0 KINDS kind kind c.loop-kind-test.true))
    _ _ _ c.loop-kind.invariant (search rules)

pub returns : goal.returns
returns g c =
    let kind = c.loop-kind.kind in
    record { ok = rw (take_all kind (range_with_len 0 KINDS) (omega (arith, length-range_with_len 0 KINDS, c.loop-kind-test.false))) at c.loop-kind.invariant; err = tt }
