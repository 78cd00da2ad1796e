use Rattle.std.proofs.Common.{length, le_refl, sym, ◌∙◌, arith}
use Rattle.std.proofs.lemmas.Bool.{false≢true}
use Rattle.std.proofs.lemmas.Slice.{between_to_end}
use Rattle.rt_cidr.proofs.Fronts.{no_digit, leading_zero, decimal_at_front}
use Rattle.rt_cidr.proofs.decimals.read_decimal.Goals as goal
use Rattle.rt_cidr.proofs.decimals.read_decimal.Goals.{then-len-eq0-via-then-len-eq0, then-len-eq0-via-else-len-eq0+then-has_leading_zero}

pub returns-then-len-eq0 : goal.returns-then-len-eq0
returns-then-len-eq0 c =
    let text = c.args.text.now in
    let front = c.leading_digits-value.ensures in
    elim c.then-len-eq0.branch [
      | then-len-eq0-via-then-len-eq0 w ↦ no_digit text _ _ front w.if-len-eq0.true
      | then-len-eq0-via-else-len-eq0+then-has_leading_zero w ↦
          leading_zero text _ _ front (w.has_leading_zero.ensures.0 w.if-has_leading_zero.true)
    ]

pub returns : goal.returns
returns c =
    let text = c.args.text.now in
    rw (between_to_end text c.leading_digits-value.result.1 (length text) (le_refl _))
    (decimal_at_front text _ _ c.leading_digits-value.ensures (omega arith)
    (λ zero. false≢true (sym c.if-has_leading_zero.false ∙ c.has_leading_zero.ensures.1 zero)))
