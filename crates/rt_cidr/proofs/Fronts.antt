-- A reader's piece at the front of a text is unique, and pieces are joined at a mark in only one way.
use Rattle.std.proofs.Common.{◌≡◌, ◌≢◌, ℕ, ◌+◌, ◌*◌, ◌^◌, ◌<◌, ◌≤◌, List, [], ◌∷◌, ◌++◌, length, get_or, take, drop}
use Rattle.std.proofs.Common.{refl, sym, ap, ◌∙◌, arith, append_assoc, take-append-drop, length-take-le, get_or-drop}
use Rattle.std.proofs.Common.{add-zero, append-nil, inl, inr, lit≤, Result, Ok, Err, Some, None}
use Rattle.std.proofs.lemmas.Bool.{cases_lt}
use Rattle.std.proofs.lemmas.List.{nil_from_length}
use Rattle.std.specs.Char.{digit_value}
use Rattle.std.specs.Str.Parse.{AllDigits, digits_value}
use Rattle.std.specs.Result.{OkIff, result_ok}
use Rattle.rt_cidr.specs.Reading.{ReadsDecimal}
use Rattle.rt_cidr.specs.Text.{dot, slash, IsDecimal, IsOctetText, IsAddressText, IsPrefixText}
use Rattle.rt_cidr.specs.inside.Front.{capped, StartsBy, LeadingDigits, IsCappedDecimal, IsJoined, IsHalfText, ReadsPair}
use Rattle.rt_cidr.proofs.Digits.{cut_once}

-- no such piece is at the front of the text
abbrev pub NoFront : (List ℕ → ℕ → Type 0) → List ℕ → Type 0
NoFront IsText text = (n : ℕ) (rest : List ℕ) → ¬ (StartsBy IsText text n rest)

-- a text has at most one such piece at its front
abbrev pub IsReadOnce : (List ℕ → ℕ → Type 0) → Type 0
IsReadOnce IsText = (text : List ℕ) (n m : ℕ) (rest others : List ℕ) → StartsBy IsText text n rest → StartsBy IsText text m others → (n ≡ m) × (rest ≡ others)

-- at most one piece of digits is at the front of a text, with one number
pub digits_read_once : (IsText : List ℕ → ℕ → Type 0) →
    ((text : List ℕ) (n : ℕ) → IsText text n → AllDigits 10 text) →
    ((text : List ℕ) (n m : ℕ) → IsText text n → IsText text m → n ≡ m) → IsReadOnce IsText
digits_read_once IsText digits same text n m rest others one two =
    let cut = cut_once one.piece two.piece rest others (digits one.piece n one.is_piece)
    (digits two.piece m two.is_piece) one.ends two.ends (sym one.joined ∙ two.joined) in
    (same two.piece n m (rw cut.0 at one.is_piece) two.is_piece, cut.1)

pub octet_read_once : IsReadOnce IsOctetText
octet_read_once =
    digits_read_once IsOctetText (λ text n h. h.spelled.digits.1) (λ text n m h k. sym h.spelled.value ∙ k.spelled.value)

pub decimal_read_once : IsReadOnce IsCappedDecimal
decimal_read_once =
    digits_read_once IsCappedDecimal (λ text n h. h.spelled.digits.1)
    (λ text n m h k. h.is_value ∙ ap capped (sym h.spelled.value ∙ k.spelled.value) ∙ sym k.is_value)

module _ (text : List ℕ) (value len : ℕ) (front : LeadingDigits text value len) where
  -- the digits at the front are the piece of any decimal there
  front_piece : (n : ℕ) (rest : List ℕ) (h : StartsBy IsCappedDecimal text n rest) → h.piece ≡ take len text
  front_piece n rest h =
      let ends : 10 ≤ digit_value (get_or (drop len text) 0 0) = rw (get_or-drop len text 0 0, add-zero) front.ends in
      (cut_once h.piece (take len text) rest (drop len text) h.is_piece.spelled.digits.1 front.digits h.ends ends
      (sym h.joined ∙ sym (take-append-drop len text))).0

  front_length : (n : ℕ) (rest : List ℕ) (h : StartsBy IsCappedDecimal text n rest) → length h.piece ≡ len
  front_length n rest h = ap length (front_piece n rest h) ∙ length-take-le len text front.within

  -- without a digit there is no decimal
  pub no_digit : len ≡ 0 → NoFront IsCappedDecimal text
  no_digit none n rest h = omega (arith, front_length n rest h, h.is_piece.spelled.digits.0)

  -- with a zero before more digits there is no decimal
  pub leading_zero : (1 < length (take len text)) × (get_or (take len text) 0 0 ≡ 48) →
      NoFront IsCappedDecimal text
  leading_zero zero n rest h =
      let alone = rw (front_piece n rest h) at h.is_piece.spelled.no_leading_zero in
      omega (arith, zero.0, alone zero.1)

  -- in all other cases the digits are a decimal
  pub decimal_at_front : 0 < len → ¬ ((1 < length (take len text)) × (get_or (take len text) 0 0 ≡ 48)) →
      StartsBy IsCappedDecimal text value (drop len text)
  decimal_at_front some plain =
      let some_digits : 0 < length (take len text) = omega (arith, length-take-le len text front.within) in
      record {
        piece = take len text;
        is_piece = record {
          n = digits_value 10 (take len text);
          spelled = record {
            digits = (some_digits, front.digits);
            value = refl;
            no_leading_zero = λ zero. elim (cases_lt 1 (length (take len text))) [
              | inl more ↦ absurd (plain (more, zero))
              | inr one ↦ omega arith
            ];
          };
          is_value = front.is_value;
        };
        joined = sym (take-append-drop len text);
        ends = rw (get_or-drop len text 0 0, add-zero) front.ends;
      }

-- if every text of one kind is also of another kind, so is every piece at the front of a text
front_as : (IsText IsOther : List ℕ → ℕ → Type 0) → ((text : List ℕ) (n : ℕ) → IsText text n → IsOther text n) →
    (text : List ℕ) (n : ℕ) (rest : List ℕ) → StartsBy IsText text n rest → StartsBy IsOther text n rest
front_as IsText IsOther also text n rest h = record {
  piece = h.piece;
  is_piece = also h.piece n h.is_piece;
  joined = h.joined;
  ends = h.ends;
}

-- an octet is a decimal, which the cap doesn't change
pub octet_is_decimal : (text : List ℕ) (n : ℕ) (rest : List ℕ) → StartsBy IsOctetText text n rest →
    StartsBy IsCappedDecimal text n rest
octet_is_decimal =
    front_as IsOctetText IsCappedDecimal
    (λ text n h. record { n = n; spelled = h.spelled; is_value = let fits : n < 256 = h.fits in omega arith })

-- a decimal of 256 or more isn't an octet
pub no_octet : (text : List ℕ) (value : ℕ) (after : List ℕ) → StartsBy IsCappedDecimal text value after →
    256 ≤ value → NoFront IsOctetText text
no_octet text value after read large n rest h =
    let same = decimal_read_once text value n after rest read (octet_is_decimal text n rest h) in
    omega (arith, same.0, h.is_piece.fits)

-- two pieces and the mark between them are a joined text
joined_pieces : (IsHigh IsLow : List ℕ → ℕ → Type 0) (mark scale : ℕ) {high_text low_text : List ℕ} {high low : ℕ} →
    IsHigh high_text high → IsLow low_text low →
    IsJoined IsHigh IsLow mark scale (high_text ++ mark ∷ low_text) (high * scale + low)
joined_pieces IsHigh IsLow mark scale {high_text} {low_text} {high} {low} is_high is_low = record {
  high_text = high_text;
  low_text = low_text;
  high = high;
  low = low;
  is_high = is_high;
  is_low = is_low;
  joined = refl;
  value = refl;
}

-- a text that begins with two joined pieces: the high one, the mark, the low one
record Joins (IsHigh IsLow : List ℕ → ℕ → Type 0) (mark scale : ℕ) (text : List ℕ) (n : ℕ) (rest : List ℕ) : Type 0 where
  high : ℕ
  low : ℕ
  after : List ℕ
  is_high : StartsBy IsHigh text high (mark ∷ after)
  is_low : StartsBy IsLow after low rest
  value : n ≡ high * scale + low

module _ (IsHigh IsLow : List ℕ → ℕ → Type 0) (mark scale : ℕ) (mark_ends : 10 ≤ digit_value mark) (text : List ℕ) where
  opened : (n : ℕ) (rest : List ℕ) → StartsBy (IsJoined IsHigh IsLow mark scale) text n rest →
      Joins IsHigh IsLow mark scale text n rest
  opened n rest h =
      let both = h.is_piece in
      record {
        high = both.high;
        low = both.low;
        after = both.low_text ++ rest;
        is_high = record {
          piece = both.high_text;
          is_piece = both.is_high;
          joined = h.joined
              ∙ ap (λ t. t ++ rest) both.joined ∙ append_assoc both.high_text (mark ∷ both.low_text) rest;
          ends = mark_ends;
        };
        is_low = record { piece = both.low_text; is_piece = both.is_low; joined = refl; ends = h.ends };
        value = both.value;
      }

  pub joined_front : (high low n : ℕ) (other after rest : List ℕ) → StartsBy IsHigh text high other →
      other ≡ mark ∷ after → StartsBy IsLow after low rest → n ≡ high * scale + low →
      StartsBy (IsJoined IsHigh IsLow mark scale) text n rest
  joined_front high low n other after rest one marked two value = record {
    piece = one.piece ++ mark ∷ two.piece;
    is_piece = rw value (joined_pieces IsHigh IsLow mark scale one.is_piece two.is_piece);
    joined = one.joined ∙ ap (λ t. one.piece ++ t) (marked ∙ ap (λ t. mark ∷ t) two.joined) ∙ sym (append_assoc one.piece (mark ∷ two.piece) rest);
    ends = two.ends;
  }

  -- nothing is read if the high piece, the mark or the low piece is missing
  pub no_high : NoFront IsHigh text → NoFront (IsJoined IsHigh IsLow mark scale) text
  no_high none n rest h = let parts = opened n rest h in none parts.high _ parts.is_high

  pub no_mark : IsReadOnce IsHigh → (high : ℕ) (other : List ℕ) → StartsBy IsHigh text high other →
      ((after : List ℕ) → other ≢ mark ∷ after) → NoFront (IsJoined IsHigh IsLow mark scale) text
  no_mark once high other one none n rest h =
      let parts = opened n rest h in
      none parts.after (once text high parts.high other _ one parts.is_high).1

  pub no_low : IsReadOnce IsHigh → (high : ℕ) (other after : List ℕ) → StartsBy IsHigh text high other →
      other ≡ mark ∷ after → NoFront IsLow after →
      NoFront (IsJoined IsHigh IsLow mark scale) text
  no_low once high other after one marked none n rest h =
      let parts = opened n rest h in
      let same : after ≡ parts.after = ap (λ t. drop 1 t) (sym marked ∙ (once text high parts.high other _ one parts.is_high).1) in
      none parts.low rest (rw (sym same) at parts.is_low)

  joined_once_here : IsReadOnce IsHigh → IsReadOnce IsLow → (n m : ℕ) (rest others : List ℕ) →
      StartsBy (IsJoined IsHigh IsLow mark scale) text n rest →
      StartsBy (IsJoined IsHigh IsLow mark scale) text m others → (n ≡ m) × (rest ≡ others)
  joined_once_here high_once low_once n m rest others one two =
      let first = opened n rest one in
      let second = opened m others two in
      let high = high_once text first.high second.high _ _ first.is_high second.is_high in
      let same : first.after ≡ second.after = ap (λ t. drop 1 t) high.1 in
      let low = low_once second.after first.low second.low rest others (rw same at first.is_low) second.is_low in
      (first.value ∙ rw (high.0, low.0) (sym second.value), low.1)

-- joined pieces are read in only one way if each of them is
pub joined_read_once : (IsHigh IsLow : List ℕ → ℕ → Type 0) (mark scale : ℕ) → 10 ≤ digit_value mark →
    IsReadOnce IsHigh → IsReadOnce IsLow → IsReadOnce (IsJoined IsHigh IsLow mark scale)
joined_read_once IsHigh IsLow mark scale ends high low text = joined_once_here IsHigh IsLow mark scale ends text high low

-- four octets joined by dots are an address
pub four_octets : {a b c d : List ℕ} {x y z w : ℕ} → IsOctetText a x → IsOctetText b y → IsOctetText c z → IsOctetText d w
    → IsAddressText (a ++ dot ∷ (b ++ dot ∷ (c ++ dot ∷ d))) (x * 2 ^ 24 + y * 2 ^ 16 + z * 2 ^ 8 + w)
four_octets {a} {b} {c} {d} {x} {y} {z} {w} first second third fourth = record {
  first_text = a;
  first = x;
  is_first = first;
  second_text = b;
  second = y;
  is_second = second;
  third_text = c;
  third = z;
  is_third = third;
  fourth_text = d;
  fourth = w;
  is_fourth = fourth;
  joined = refl;
  value = refl;
}

-- an address is two halves joined by a dot
pub address_is_halves : (text : List ℕ) (address : ℕ) → IsAddressText text address →
    IsJoined IsHalfText IsHalfText dot (2 ^ 16) text address
address_is_halves text address h = record {
  high_text = h.first_text ++ dot ∷ h.second_text;
  low_text = h.third_text ++ dot ∷ h.fourth_text;
  high = h.first * 2 ^ 8 + h.second;
  low = h.third * 2 ^ 8 + h.fourth;
  is_high = joined_pieces IsOctetText IsOctetText dot (2 ^ 8) h.is_first h.is_second;
  is_low = joined_pieces IsOctetText IsOctetText dot (2 ^ 8) h.is_third h.is_fourth;
  joined = h.joined ∙ sym (append_assoc h.first_text (dot ∷ h.second_text) (dot ∷ (h.third_text ++ dot ∷ h.fourth_text)));
  value = omega (arith, h.value);
}

pub halves_are_address : (text : List ℕ) (address : ℕ) →
    IsJoined IsHalfText IsHalfText dot (2 ^ 16) text address → IsAddressText text address
halves_are_address text address h =
    let high = h.is_high in
    let low = h.is_low in
    let same_text : text ≡ high.high_text ++ dot ∷ (high.low_text ++ dot ∷ (low.high_text ++ dot ∷ low.low_text)) =
    rw (h.joined, high.joined, low.joined) (append_assoc high.high_text (dot ∷ high.low_text) (dot ∷ (low.high_text ++ dot ∷ low.low_text))) in
    let same_number : address ≡ high.high * 2 ^ 24 + high.low * 2 ^ 16 + low.high * 2 ^ 8 + low.low = omega (arith, h.value, high.value, low.value) in
    rw (same_text, same_number) (four_octets high.is_high high.is_low low.is_high low.is_low)

-- an address at the front of a text is two halves joined by a dot there
pub address_front_is_halves : (text : List ℕ) (n : ℕ) (rest : List ℕ) → StartsBy IsAddressText text n rest →
    StartsBy (IsJoined IsHalfText IsHalfText dot (2 ^ 16)) text n rest
address_front_is_halves = front_as IsAddressText (IsJoined IsHalfText IsHalfText dot (2 ^ 16)) address_is_halves

pub halves_front_is_address : (text : List ℕ) (n : ℕ) (rest : List ℕ) →
    StartsBy (IsJoined IsHalfText IsHalfText dot (2 ^ 16)) text n rest → StartsBy IsAddressText text n rest
halves_front_is_address = front_as (IsJoined IsHalfText IsHalfText dot (2 ^ 16)) IsAddressText halves_are_address

pub half_read_once : IsReadOnce IsHalfText
half_read_once = joined_read_once IsOctetText IsOctetText dot (2 ^ 8) (lit≤ tt) octet_read_once octet_read_once

pub address_read_once : IsReadOnce IsAddressText
address_read_once text n m rest others one two =
    joined_read_once IsHalfText IsHalfText dot (2 ^ 16) (lit≤ tt) half_read_once half_read_once text n m rest others
    (address_front_is_halves text n rest one) (address_front_is_halves text m others two)

-- a half has 16 bits, an address 32
pub half_fits : (text : List ℕ) (n : ℕ) → IsHalfText text n → n < 2 ^ 16
half_fits text n h = omega (arith, h.value, h.is_high.fits, h.is_low.fits)

pub address_fits : (text : List ℕ) (n : ℕ) → IsAddressText text n → n < 2 ^ 32
address_fits text n h = omega (arith, h.value, h.is_first.fits, h.is_second.fits, h.is_third.fits, h.is_fourth.fits)

module _ (IsText : List ℕ → ℕ → Type 0) (text : List ℕ) where
  -- the whole text is a piece at its front
  pub front_of_whole : (n : ℕ) → IsText text n → StartsBy IsText text n []
  front_of_whole n h = record { piece = text; is_piece = h; joined = sym (append-nil text); ends = lit≤ tt }

  -- a piece with nothing after it is the whole text
  pub whole_of_front : (n : ℕ) (rest : List ℕ) → StartsBy IsText text n rest → length rest < 1 → IsText text n
  whole_of_front n rest h none =
      let whole : text ≡ h.piece = h.joined ∙ ap (λ t. h.piece ++ t) (nil_from_length rest (omega arith)) ∙ append-nil h.piece in
      rw whole h.is_piece

  -- if something follows the piece, or there is no piece, the whole text isn't one
  pub no_whole_before : IsReadOnce IsText → (n : ℕ) (rest : List ℕ) → StartsBy IsText text n rest →
      1 ≤ length rest → (m : ℕ) → ¬ (IsText text m)
  no_whole_before once n rest h more m whole =
      omega (arith, ap length (once text n m rest [] h (front_of_whole m whole)).1)

  pub no_whole : NoFront IsText text → (m : ℕ) → ¬ (IsText text m)
  no_whole none m whole = none m [] (front_of_whole m whole)

-- the cap doesn't change a number below it
pub capped_decimal : (text : List ℕ) (n : ℕ) → n < 2 ^ 32 → IsDecimal text n → IsCappedDecimal text n
capped_decimal text n small h = record { n = n; spelled = h; is_value = omega arith }

-- a decimal is read if it fits 32 bits
pub decimal_that_fits : {E : Type 0} (text : List ℕ) (value : ℕ) (r : Result ℕ E) →
    IsCappedDecimal text value → OkIff r (value < 2 ^ 32) value → ReadsDecimal text (result_ok r)
decimal_that_fits text value (Ok n) h fits =
    let same : h.n ≡ n = omega (arith, h.is_value, fits.0, fits.1) in
    (rw same at h.spelled, omega (arith, fits.0, fits.1))
decimal_that_fits text value (Err e) h large =
    λ n small other.
    let same : h.n ≡ n = sym h.spelled.value ∙ other.value in
    large (omega (arith, h.is_value))

-- the text of a pair is an address and a length joined by a slash
pub pair_is_joined : (text : List ℕ) (address len : ℕ) → IsPrefixText text address len →
    StartsBy (IsJoined IsAddressText IsCappedDecimal slash 0) text (capped len) []
pair_is_joined text address len h =
    front_of_whole (IsJoined IsAddressText IsCappedDecimal slash 0) text (capped len) (record {
      high_text = h.address_part;
      low_text = h.len_part;
      high = address;
      low = capped len;
      is_high = h.is_address;
      is_low = record { n = len; spelled = h.is_len; is_value = refl };
      joined = h.joined;
      value = omega arith;
    })

-- an address, a slash and a whole decimal are the text of a pair
pub pair_of_pieces : (text other after : List ℕ) (address len : ℕ) →
    StartsBy IsAddressText text address other → other ≡ slash ∷ after → IsCappedDecimal after len →
    ReadsPair text (Some (address, len))
pair_of_pieces text other after address len one marked two = (
  two.n,
  record {
    address_part = one.piece;
    len_part = after;
    is_address = one.is_piece;
    is_len = two.spelled;
    joined = one.joined ∙ ap (λ t. one.piece ++ t) marked;
  },
  two.is_value,
)

-- if something follows the decimal, the text denotes no pair
pub no_pair_before : (text other after rest : List ℕ) (address len : ℕ) →
    StartsBy IsAddressText text address other → other ≡ slash ∷ after →
    StartsBy IsCappedDecimal after len rest → 1 ≤ length rest → ReadsPair text None
no_pair_before text other after rest address len one marked two more = λ a n h.
    let front = joined_front IsAddressText IsCappedDecimal slash 0 (lit≤ tt) text address len len other after rest one marked two (omega arith) in
    let once = joined_read_once IsAddressText IsCappedDecimal slash 0 (lit≤ tt) address_read_once decimal_read_once in
    omega (arith, ap length (once text len (capped n) rest [] front (pair_is_joined text a n h)).1)
