-- What readers find at the front of a text: how they proceed from piece to piece.
use Rattle.std.specs.Prelude.{◌≡◌, ◌≢◌, ℕ, ◌+◌, ◌*◌, ◌^◌, ◌≤◌, min, List, ◌∷◌, ◌++◌, length, take, slice_index, Option, Some, None}
use Rattle.std.specs.Borrow.{Bor}
use Rattle.std.specs.Char.{digit_value}
use Rattle.std.specs.Str.Parse.{AllDigits, digits_value}
use Rattle.rt_cidr.specs.Text.{dot, IsDecimal, IsOctetText, IsPrefixText}

-- the text begins with a piece that denotes n, followed by `rest`, which doesn't begin with a digit
pub record StartsBy (IsText : List ℕ → ℕ → Type 0) (text : List ℕ) (n : ℕ) (rest : List ℕ) : Type 0 where
  pub piece : List ℕ
  pub is_piece : IsText piece n
  pub joined : text ≡ piece ++ rest
  pub ends : 10 ≤ digit_value (slice_index rest 0)

-- the piece at the front and the rest after it, or there is no such piece
abbrev pub ReadsFront : (List ℕ → ℕ → Type 0) → List ℕ → Option (ℕ × Bor (List ℕ)) → Type 0
ReadsFront IsText text (Some read) = StartsBy IsText text read.0 read.1.now
ReadsFront IsText text None = (n : ℕ) (rest : List ℕ) → ¬ StartsBy IsText text n rest

-- the rest after the mark at the front, or the mark isn't there
abbrev pub ReadsMark : ℕ → List ℕ → Option (Bor (List ℕ)) → Type 0
ReadsMark mark text (Some rest) = text ≡ mark ∷ rest.now
ReadsMark mark text None = (rest : List ℕ) → text ≢ mark ∷ rest

-- a number of 2^32 or more counts as 2^32
abbrev pub capped : ℕ → ℕ
capped n = min n (2 ^ 32)

-- the text begins with exactly `len` digits, which have this value, capped
pub record LeadingDigits (text : List ℕ) (value len : ℕ) : Type 0 where
  pub within : len ≤ length text
  pub digits : AllDigits 10 (take len text)
  pub is_value : value ≡ capped (digits_value 10 (take len text))
  pub ends : 10 ≤ digit_value (slice_index text len)

-- the text is a decimal, and this is its number, capped
pub record IsCappedDecimal (text : List ℕ) (value : ℕ) : Type 0 where
  pub n : ℕ
  pub spelled : IsDecimal text n
  pub is_value : value ≡ capped n

-- the text is two pieces joined by a mark, and n is the high piece's number times `scale` plus the low piece's
pub record IsJoined (IsHigh IsLow : List ℕ → ℕ → Type 0) (mark scale : ℕ) (text : List ℕ) (n : ℕ) : Type 0 where
  pub high_text : List ℕ
  pub low_text : List ℕ
  pub high : ℕ
  pub low : ℕ
  pub is_high : IsHigh high_text high
  pub is_low : IsLow low_text low
  pub joined : text ≡ high_text ++ mark ∷ low_text
  pub value : n ≡ high * scale + low

-- the text is two octets joined by a dot
abbrev pub IsHalfText : List ℕ → ℕ → Type 0
IsHalfText = IsJoined IsOctetText IsOctetText dot (2 ^ 8)

-- the pair that the text denotes, its length capped, or it denotes none
abbrev pub ReadsPair : List ℕ → Option (ℕ × ℕ) → Type 0
ReadsPair text (Some pair) = (len : ℕ) × IsPrefixText text pair.0 len × (pair.1 ≡ capped len)
ReadsPair text None = (address len : ℕ) → ¬ IsPrefixText text address len
