use Rattle.std.proofs.Common.{◌<◌, ◌^◌, lit≤, refl, arith}
use Rattle.std.proofs.lemmas.Grind.{or_after_shift}
use Rattle.rt_cidr.specs.Text.{dot}
use Rattle.rt_cidr.specs.inside.Front.{IsHalfText}
use Rattle.rt_cidr.proofs.Fronts.{half_read_once, half_fits, address_front_is_halves, halves_front_is_address, no_high, no_mark, no_low, joined_front}
use Rattle.rt_cidr.proofs.address.read_address.Goals as goal

pub returns-in_err-high : goal.returns-in_err-high
returns-in_err-high c =
    rw c.from_residual.ensures
    (λ n rest h. no_high IsHalfText IsHalfText dot (2 ^ 16) (lit≤ tt) c.args.text.now c.in_err-high.ensures n rest
    (address_front_is_halves c.args.text.now n rest h))

pub returns-in_err-after_mark : goal.returns-in_err-after_mark
returns-in_err-after_mark c =
    rw c.from_residual-in_err-after_mark.ensures
    (λ n rest h. no_mark IsHalfText IsHalfText dot (2 ^ 16) (lit≤ tt) c.args.text.now half_read_once _ _
    c.in_ok-high.ensures c.in_err-after_mark.ensures n rest (address_front_is_halves c.args.text.now n rest h))

pub returns-in_err-low : goal.returns-in_err-low
returns-in_err-low c =
    rw c.from_residual-in_err-low.ensures
    (λ n rest h. no_low IsHalfText IsHalfText dot (2 ^ 16) (lit≤ tt) c.args.text.now half_read_once _ _ _
    c.in_ok-high.ensures c.in_ok-after_mark.ensures c.in_err-low.ensures n rest
    (address_front_is_halves c.args.text.now n rest h))

pub returns : goal.returns
returns c =
    let high = c.in_ok-high.ensures in
    let low = c.in_ok-low.ensures in
    let high_fits : c.in_ok-high.high < 2 ^ 16 = half_fits _ _ high.is_piece in
    let low_fits : c.in_ok-low.low < 2 ^ 16 = half_fits _ _ low.is_piece in
    halves_front_is_address c.args.text.now _ _ (joined_front IsHalfText IsHalfText dot (2 ^ 16)
    (lit≤ tt) c.args.text.now _ _ _ _ _ _ high c.in_ok-after_mark.ensures low
    (or_after_shift c.in_ok-high.high (2 ^ 16) (2 ^ 32) c.in_ok-low.low refl low_fits (omega arith)))
