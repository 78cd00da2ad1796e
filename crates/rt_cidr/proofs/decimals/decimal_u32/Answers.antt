use Rattle.std.proofs.Common.{◌≤◌, length, arith}
use Rattle.std.proofs.lemmas.Bool.Decides.{nat_tests}
use Rattle.rt_cidr.specs.inside.Front.{IsCappedDecimal}
use Rattle.rt_cidr.proofs.Fronts.{decimal_read_once, capped_decimal, decimal_that_fits, whole_of_front, no_whole_before, no_whole}
use Rattle.rt_cidr.proofs.decimals.decimal_u32.Goals as goal

pub returns-in_err-value : goal.returns-in_err-value
returns-in_err-value c =
    rw c.from_residual.ensures
    (λ n small h. no_whole IsCappedDecimal c.args.text.now c.in_err-value.ensures n (capped_decimal c.args.text.now n small h))

pub returns-then-not-is_empty : goal.returns-then-not-is_empty
returns-then-not-is_empty c =
    let text = c.args.text.now in
    let more : 1 ≤ length c.in_ok-value.rest.now = grind (arith, nat_tests) in
    λ n small h.
    no_whole_before IsCappedDecimal text decimal_read_once _ _ c.in_ok-value.ensures more n (capped_decimal text n small h)

pub returns : goal.returns
returns c =
    let text = c.args.text.now in
    let whole = whole_of_front IsCappedDecimal text _ _ c.in_ok-value.ensures (grind (arith, nat_tests)) in
    rw c.ok.ensures.value (decimal_that_fits text _ _ whole c.try_from.ensures)
