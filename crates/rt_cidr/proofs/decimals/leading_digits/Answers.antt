use Rattle.std.proofs.Common.{◌≡◌, ℕ, ◌≤◌, List, length, take, get_or, arith}
use Rattle.std.specs.Char.{digit_value}
use Rattle.std.specs.Str.Parse.{AllDigits, digits_value}
use Rattle.rt_cidr.specs.inside.Front.{capped, LeadingDigits}
use Rattle.std.proofs.lemmas.Int.Digits.{digits_more}
use Rattle.rt_cidr.proofs.Digits.{capped-digits_value, digit_value-end, digit_value-other}
use Rattle.rt_cidr.proofs.decimals.leading_digits.Goals as goal

pub loop-byte-preserved : goal.loop-byte-preserved
loop-byte-preserved c =
    let text = c.args.text.now in
    let so_far = c.loop-byte.invariant in
    let at = c.loop-byte.byte-index in
    let digit = c.if-not-is_ascii_digit.ensures.bound in
    record {
      count = omega arith;
      within = omega arith;
      digits = rw so_far.count (digits_more 10 text at c.loop-byte-test.true (rw so_far.count at so_far.digits) digit);
      value =
          rw (so_far.count, c.min-value.ensures, c.from.ensures)
          (capped-digits_value text at c.loop-byte.value c.loop-byte-test.true (rw so_far.count at so_far.value) digit);
    }

-- the digits that the loop read are those at the front, if no digit follows
leading : (text : List ℕ) (value len : ℕ) → len ≤ length text → AllDigits 10 (take len text) →
    value ≡ capped (digits_value 10 (take len text)) → 10 ≤ digit_value (get_or text len 0) → LeadingDigits text value len
leading text value len within digits is_value ends =
    record { within = within; digits = digits; is_value = is_value; ends = ends }

pub returns-after-loop-byte : goal.returns-after-loop-byte
returns-after-loop-byte c =
    let so_far = c.loop-byte.invariant in
    leading c.args.text.now _ _ so_far.within so_far.digits so_far.value (digit_value-end c.args.text.now c.loop-byte.len (omega arith))

pub returns-then-not-is_ascii_digit : goal.returns-then-not-is_ascii_digit
returns-then-not-is_ascii_digit c =
    let so_far = c.loop-byte.invariant in
    leading c.args.text.now _ _ so_far.within so_far.digits so_far.value (rw so_far.count (digit_value-other _ c.if-not-is_ascii_digit.ensures.cases))
