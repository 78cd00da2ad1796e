use Rattle.std.proofs.Common.{◌<◌, ◌^◌, lit≤, refl, arith}
use Rattle.std.proofs.lemmas.Grind.{or_after_shift}
use Rattle.rt_cidr.specs.Text.{dot, IsOctetText}
use Rattle.rt_cidr.proofs.Fronts.{octet_read_once, no_high, no_mark, no_low, joined_front}
use Rattle.rt_cidr.proofs.address.read_half.Goals as goal

pub returns-in_err-high : goal.returns-in_err-high
returns-in_err-high c =
    rw c.from_residual.ensures
    (no_high IsOctetText IsOctetText dot (2 ^ 8) (lit≤ tt) c.args.text.now c.in_err-high.ensures)

pub returns-in_err-after_mark : goal.returns-in_err-after_mark
returns-in_err-after_mark c =
    rw c.from_residual-in_err-after_mark.ensures
    (no_mark IsOctetText IsOctetText dot (2 ^ 8) (lit≤ tt) c.args.text.now octet_read_once _ _ c.in_ok-high.ensures c.in_err-after_mark.ensures)

pub returns-in_err-low : goal.returns-in_err-low
returns-in_err-low c =
    rw c.from_residual-in_err-low.ensures
    (no_low IsOctetText IsOctetText dot (2 ^ 8) (lit≤ tt) c.args.text.now octet_read_once _ _ _ c.in_ok-high.ensures
    c.in_ok-after_mark.ensures c.in_err-low.ensures)

pub returns : goal.returns
returns c =
    let high = c.in_ok-high.ensures in
    let low = c.in_ok-low.ensures in
    let high_fits : c.in_ok-high.high < 256 = high.is_piece.fits in
    let low_fits : c.in_ok-low.low < 256 = low.is_piece.fits in
    joined_front IsOctetText IsOctetText dot (2 ^ 8) (lit≤ tt) c.args.text.now _ _ _ _ _ _ high c.in_ok-after_mark.ensures low
    (or_after_shift c.in_ok-high.high (2 ^ 8) (2 ^ 32) c.in_ok-low.low refl low_fits (omega arith))
