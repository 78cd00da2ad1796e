-- Digits at the front of a text; a text splits after them in only one way.
use Rattle.std.proofs.Common.{◌≡◌, ℕ, ◌+◌, ◌-◌, ◌*◌, ◌^◌, ◌<◌, ◌≤◌, min, List, [], ◌∷◌, ◌++◌, length, get_or, take}
use Rattle.std.proofs.Common.{drop, ◌⊎◌, inl, inr, lit≤, refl, sym, ap, arith}
use Rattle.std.proofs.lemmas.Bool.{cases_lt}
use Rattle.std.proofs.lemmas.Bool.Decides.{nat_tests}
use Rattle.std.proofs.lemmas.Int.Digits.{digits_value_more}
use Rattle.std.proofs.lemmas.List.{get_or_past}
use Rattle.std.proofs.lemmas.Str.Parse.{digit_from_value}
use Rattle.std.specs.Char.{digit_value}
use Rattle.std.specs.Str.Parse.{AllDigits, digits_value}
use Rattle.rt_cidr.specs.inside.Front.{capped}

-- a digit's value is its distance from `0`
pub digit_value-digit : (c : ℕ) → digit_value c < 10 → digit_value c ≡ c - 48
digit_value-digit c h = let r = digit_from_value c h in grind (arith, nat_tests)

-- any other byte isn't the value of a decimal digit
pub digit_value-other : (c : ℕ) → (c < 48) ⊎ (57 < c) → 10 ≤ digit_value c
digit_value-other c out = elim (cases_lt (digit_value c) 10) [
  | inl digit ↦ let r = digit_from_value c digit in absurd (omega arith)
  | inr other ↦ other
]

-- past the end of a text there is no digit
pub digit_value-end : (text : List ℕ) (n : ℕ) → length text ≤ n → 10 ≤ digit_value (get_or text n 0)
digit_value-end text n past = rw (get_or_past text n 0 past) (lit≤ tt)

-- appending a digit to a capped value and capping it again gives the capped value of the whole
pub capped-step : (v n d : ℕ) → v ≡ capped n → min (v * 10 + d) (2 ^ 32) ≡ capped (n * 10 + d)
capped-step v n d e = omega arith

-- the value after one more digit
pub capped-digits_value : (text : List ℕ) (i v : ℕ) → i < length text →
    v ≡ capped (digits_value 10 (take i text)) → digit_value (get_or text i 0) < 10 →
    min (v * 10 + (get_or text i 0 - 48)) (2 ^ 32) ≡ capped (digits_value 10 (take (i + 1) text))
capped-digits_value text i v within e digit =
    rw (digits_value_more 10 text i within, digit_value-digit (get_or text i 0) digit) (capped-step v (digits_value 10 (take i text)) (get_or text i 0 - 48) e)

-- a text splits after its digits in only one way
pub cut_once : (xs ys rest others : List ℕ) → AllDigits 10 xs → AllDigits 10 ys →
    10 ≤ digit_value (get_or rest 0 0) → 10 ≤ digit_value (get_or others 0 0) → xs ++ rest ≡ ys ++ others →
    (xs ≡ ys) × (rest ≡ others)
cut_once [] [] rest others all_x all_y ends_x ends_y e = (refl, e)
cut_once [] (y ∷ ys) rest others all_x all_y ends_x ends_y e =
    let late : 10 ≤ digit_value y = rw e at ends_x in
    absurd (omega (arith, all_y.0))
cut_once (x ∷ xs) [] rest others all_x all_y ends_x ends_y e =
    let late : 10 ≤ digit_value x = rw (sym e) at ends_y in
    absurd (omega (arith, all_x.0))
cut_once (x ∷ xs) (y ∷ ys) rest others all_x all_y ends_x ends_y e =
    let (same, after) = cut_once xs ys rest others all_x.1 all_y.1 ends_x ends_y (ap (λ t. drop 1 t) e) in
    let first : x ≡ y = ap (λ t. get_or t 0 0) e in
    (rw (first, same), after)
