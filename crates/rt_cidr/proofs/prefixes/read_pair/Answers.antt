use Rattle.std.proofs.Common.{lit≤, arith}
use Rattle.std.proofs.lemmas.Bool.Decides.{nat_tests}
use Rattle.rt_cidr.specs.Text.{slash, IsAddressText}
use Rattle.rt_cidr.specs.inside.Front.{IsCappedDecimal}
use Rattle.rt_cidr.proofs.Fronts.{address_read_once, pair_is_joined, pair_of_pieces, no_pair_before, no_high, no_mark, no_low, whole_of_front}
use Rattle.rt_cidr.proofs.prefixes.read_pair.Goals as goal

pub returns-in_err-base : goal.returns-in_err-base
returns-in_err-base c =
    let text = c.args.text.now in
    rw c.from_residual.ensures
    (λ address len h. no_high IsAddressText IsCappedDecimal slash 0 (lit≤ tt) text c.in_err-base.ensures _ _ (pair_is_joined text address len h))

pub returns-in_err-after_mark : goal.returns-in_err-after_mark
returns-in_err-after_mark c =
    let text = c.args.text.now in
    rw c.from_residual-in_err-after_mark.ensures
    (λ address len h. no_mark IsAddressText IsCappedDecimal slash 0
    (lit≤ tt) text address_read_once _ _ c.in_ok-base.ensures c.in_err-after_mark.ensures _ _
    (pair_is_joined text address len h))

pub returns-in_err-len : goal.returns-in_err-len
returns-in_err-len c =
    let text = c.args.text.now in
    rw c.from_residual-in_err-len.ensures
    (λ address len h. no_low IsAddressText IsCappedDecimal slash 0
    (lit≤ tt) text address_read_once _ _ _ c.in_ok-base.ensures c.in_ok-after_mark.ensures c.in_err-len.ensures _ _
    (pair_is_joined text address len h))

pub returns-then-not-is_empty : goal.returns-then-not-is_empty
returns-then-not-is_empty c =
    no_pair_before c.args.text.now _ _ _ _ _ c.in_ok-base.ensures c.in_ok-after_mark.ensures c.in_ok-len.ensures (grind (arith, nat_tests))

pub returns : goal.returns
returns c =
    let whole = whole_of_front IsCappedDecimal _ _ _ c.in_ok-len.ensures (grind (arith, nat_tests)) in
    pair_of_pieces c.args.text.now _ _ _ _ c.in_ok-base.ensures c.in_ok-after_mark.ensures whole
