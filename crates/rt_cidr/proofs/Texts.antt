-- A text denotes at most one number, address or pair, each of these has at most one text, and the printers write it.
use Rattle.std.proofs.Common.{◌≡◌, ◌≢◌, ℕ, ◌+◌, ◌*◌, ◌/◌, ◌%◌, ◌^◌, ◌<◌, ◌≤◌, inl, inr, List, [], ◌∷◌, length, decimal, refl, sym, ap, ◌∙◌, drop, lit≤}
use Rattle.std.proofs.Common.{subst, arith}
use Rattle.std.proofs.Math.Nat.{pow-suc, pow-le-pow_right, mul-le-mul_right}
use Rattle.std.proofs.lemmas.Bool.{cases_lt}
use Rattle.std.proofs.lemmas.Fmt.{decimal_is_IsNumeral, first_decimal, decimal_digit}
use Rattle.std.proofs.lemmas.Int.Digits.{digits_value-lt}
use Rattle.std.proofs.lemmas.Str.Parse.{digit_from_value}
use Rattle.std.specs.Char.{digit_value}
use Rattle.std.specs.Str.Parse.{AllDigits, digits_value_after}
use Rattle.rt_cidr.specs.Text.{slash, IsDecimal, IsOctetText, IsAddressText, IsPrefixText, address_text, prefix_text}
use Rattle.rt_cidr.specs.inside.Front.{StartsBy}
use Rattle.rt_cidr.proofs.Digits.{digit_value-digit}
use Rattle.rt_cidr.proofs.Fronts.{address_read_once, four_octets, front_of_whole}

-- two digits with the same value are equal
same_digit : (c d : ℕ) → digit_value c < 10 → digit_value d < 10 → digit_value c ≡ digit_value d → c ≡ d
same_digit c d one two e =
    let c_in = digit_from_value c one in
    let d_in = digit_from_value d two in
    omega (arith, digit_value-digit c one, digit_value-digit d two)

-- two lists of digits with the same length and value are equal
same_digits : (a b : ℕ) (xs ys : List ℕ) → length xs ≡ length ys → AllDigits 10 xs → AllDigits 10 ys →
    digits_value_after 10 a xs ≡ digits_value_after 10 b ys → (a ≡ b) × (xs ≡ ys)
same_digits a b [] [] e all_x all_y v = (v, refl)
same_digits a b [] (y ∷ ys) e all_x all_y v = absurd (omega arith)
same_digits a b (x ∷ xs) [] e all_x all_y v = absurd (omega arith)
same_digits a b (x ∷ xs) (y ∷ ys) e all_x all_y v =
    let (front, rest) = same_digits (a * 10 + digit_value x) (b * 10 + digit_value y) xs ys (omega arith) all_x.1 all_y.1 v in
    let x_small = all_x.0 in
    let y_small = all_y.0 in
    let first = same_digit x y all_x.0 all_y.0 (omega arith) in
    (omega arith, rw (first, rest))

-- appending digits to n gives at least n, shifted by their number
moved_up : (n : ℕ) (xs : List ℕ) → n * 10 ^ length xs ≤ digits_value_after 10 n xs
moved_up n [] = omega arith
moved_up n (x ∷ xs) =
    let more = moved_up (n * 10 + digit_value x) xs in
    rw (pow-suc 10 (length xs)) (omega arith)

-- a decimal is at most as long as any other of the same value
no_longer : (s t : List ℕ) (n : ℕ) → IsDecimal s n → IsDecimal t n → length s ≤ length t
no_longer [] t n one two = omega arith
no_longer (c ∷ cs) t n one two = elim (cases_lt (length t) (length (c ∷ cs))) [
  | inr same ↦ same
  | inl shorter ↦
      let some : 0 < length t = two.digits.0 in
      let not_zero : c ≢ 48 = λ zero. omega (arith, one.no_leading_zero zero) in
      let c_in = digit_from_value c one.digits.1.0 in
      let first : 1 ≤ 0 * 10 + digit_value c = omega (arith, digit_value-digit c one.digits.1.0) in
      let power : 10 ^ length t ≤ 10 ^ length cs = pow-le-pow_right (lit≤ tt) (omega arith) in
      let raised = mul-le-mul_right (10 ^ length cs) first in
      let large = moved_up (0 * 10 + digit_value c) cs in
      let small = digits_value-lt 10 t two.digits.1 in
      absurd (omega (arith, one.value, two.value))
]

-- a text is the decimal of at most one number, and a number has at most one decimal
pub decimal_one_number : (text : List ℕ) (m n : ℕ) → IsDecimal text m → IsDecimal text n → m ≡ n
decimal_one_number text m n one two = sym one.value ∙ two.value

pub decimal_one_text : (s t : List ℕ) (n : ℕ) → IsDecimal s n → IsDecimal t n → s ≡ t
decimal_one_text s t n one two =
    let same : length s ≡ length t = omega (arith, no_longer s t n one two, no_longer t s n two one) in
    (same_digits 0 0 s t same one.digits.1 two.digits.1 (one.value ∙ sym two.value)).1

-- an address has at most one text, and a text denotes at most one address
pub address_one_number : (text : List ℕ) (m n : ℕ) → IsAddressText text m → IsAddressText text n → m ≡ n
address_one_number text m n one two =
    (address_read_once text m n [] [] (front_of_whole IsAddressText text m one) (front_of_whole IsAddressText text n two)).0

same_octet_text : (s t : List ℕ) (m n : ℕ) → IsOctetText s m → IsOctetText t n → m ≡ n → s ≡ t
same_octet_text s t m n one two same = decimal_one_text s t n (rw same at one.spelled) two.spelled

pub address_one_text : (s t : List ℕ) (n : ℕ) → IsAddressText s n → IsAddressText t n → s ≡ t
address_one_text s t n one two =
    let value = sym one.value ∙ two.value in
    let first = same_octet_text _ _ _ _ one.is_first two.is_first (omega (arith, value)) in
    let second = same_octet_text _ _ _ _ one.is_second two.is_second (omega (arith, value)) in
    let third = same_octet_text _ _ _ _ one.is_third two.is_third (omega (arith, value)) in
    let fourth = same_octet_text _ _ _ _ one.is_fourth two.is_fourth (omega (arith, value)) in
    one.joined ∙ rw (first, second, third, fourth) (sym two.joined)

-- a pair has at most one text, and a text denotes at most one pair
pub pair_one_value : (text : List ℕ) (a b m n : ℕ) → IsPrefixText text a m → IsPrefixText text b n → (a ≡ b) × (m ≡ n)
pair_one_value text a b m n one two =
    let parts = address_read_once text a b (slash ∷ one.len_part) (slash ∷ two.len_part) (front text a m one) (front text b n two) in
    let same : one.len_part ≡ two.len_part = ap (λ t. drop 1 t) parts.1 in
    (parts.0, decimal_one_number two.len_part m n (rw same at one.is_len) two.is_len)
  where
    front : (text : List ℕ) (address len : ℕ) (h : IsPrefixText text address len) →
        StartsBy IsAddressText text address (slash ∷ h.len_part)
    front text address len h = record { piece = h.address_part; is_piece = h.is_address; joined = h.joined; ends = lit≤ tt }

pub pair_one_text : (s t : List ℕ) (address len : ℕ) → IsPrefixText s address len → IsPrefixText t address len → s ≡ t
pair_one_text s t address len one two =
    one.joined ∙ rw (address_one_text _ _ address one.is_address two.is_address, decimal_one_text _ _ len one.is_len two.is_len) (sym two.joined)

-- the text that is written denotes the value
pub decimal_is_decimal : (n : ℕ) → n < 2 ^ 64 → IsDecimal (decimal n) n
decimal_is_decimal n fits =
    let (numeral, value) = decimal_is_IsNumeral n fits in
    record {
      digits = numeral;
      value = value;
      no_leading_zero = λ zero. elim (cases_lt 0 n) [
        | inl some ↦ absurd (omega (arith, first_decimal n some fits, zero))
        | inr none ↦ ap length (decimal_digit n (omega arith))
      ];
    }

pub address_text_is_address : (address : ℕ) → address < 2 ^ 32 → IsAddressText (address_text address) address
unfolding address_text
address_text_is_address address fits =
    let same : address / 2 ^ 24 % 256 * 2 ^ 24 + address / 2 ^ 16 % 256 * 2 ^ 16 + address / 2 ^ 8 % 256 * 2 ^ 8 + address % 256 ≡ address = omega arith in
    subst (IsAddressText (address_text address)) same
    (four_octets (octet (address / 2 ^ 24 % 256) (omega arith)) (octet (address / 2 ^ 16 % 256) (omega arith))
    (octet (address / 2 ^ 8 % 256) (omega arith)) (octet (address % 256) (omega arith)))
  where
    octet : (n : ℕ) → n < 256 → IsOctetText (decimal n) n
    octet n small = record { spelled = decimal_is_decimal n (omega arith); fits = small }

pub prefix_text_is_pair : (base len : ℕ) → base < 2 ^ 32 → len < 2 ^ 64 → IsPrefixText (prefix_text base len) base len
unfolding prefix_text
prefix_text_is_pair base len base_fits len_fits = record {
  address_part = address_text base;
  len_part = decimal len;
  is_address = address_text_is_address base base_fits;
  is_len = decimal_is_decimal len len_fits;
  joined = refl;
}
