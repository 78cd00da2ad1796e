-- The text form of decimals, addresses and prefixes (RFC 4632, section 3.1; leading zeros are invalid): whole pieces
-- joined.
use Rattle.std.specs.Prelude.{◌≡◌, ℕ, ◌+◌, ◌*◌, ◌/◌, ◌%◌, ◌^◌, ◌<◌, List, ◌∷◌, ◌++◌, length, slice_index, decimal}
use Rattle.std.specs.Str.Parse.{IsNumeral, digits_value}

-- `b'.'`
abbrev pub dot : ℕ
dot = 46

-- `b'/'`
abbrev pub slash : ℕ
slash = 47

-- `b'0'`
abbrev pub zero_digit : ℕ
zero_digit = 48

-- the text is the decimal of n: one or more digits, without a leading zero unless it is the only digit
pub record IsDecimal (text : List ℕ) (n : ℕ) : Type 0 where
  pub digits : IsNumeral 10 text
  pub value : digits_value 10 text ≡ n
  pub no_leading_zero : slice_index text 0 ≡ zero_digit → length text ≡ 1

-- the text is an octet: a decimal of at most 255
pub record IsOctetText (text : List ℕ) (octet : ℕ) : Type 0 where
  pub spelled : IsDecimal text octet
  pub fits : octet < 256

-- the text denotes this address: four octets joined by dots, the first the most significant
pub record IsAddressText (text : List ℕ) (address : ℕ) : Type 0 where
  pub first_text : List ℕ
  pub second_text : List ℕ
  pub third_text : List ℕ
  pub fourth_text : List ℕ
  pub first : ℕ
  pub second : ℕ
  pub third : ℕ
  pub fourth : ℕ
  pub is_first : IsOctetText first_text first
  pub is_second : IsOctetText second_text second
  pub is_third : IsOctetText third_text third
  pub is_fourth : IsOctetText fourth_text fourth
  pub joined : text ≡ first_text ++ dot ∷ (second_text ++ dot ∷ (third_text ++ dot ∷ fourth_text))
  pub value : address ≡ first * 2 ^ 24 + second * 2 ^ 16 + third * 2 ^ 8 + fourth

-- the text denotes this pair of a 32-bit address and a length of any size: the address, a slash, the length
pub record IsPrefixText (text : List ℕ) (address len : ℕ) : Type 0 where
  pub address_part : List ℕ
  pub len_part : List ℕ
  pub is_address : IsAddressText address_part address
  pub is_len : IsDecimal len_part len
  pub joined : text ≡ address_part ++ slash ∷ len_part

-- the printed text of an address: its four octets
unfoldable pub address_text : ℕ → List ℕ
address_text address =
    decimal (address / 2 ^ 24 % 256) ++ dot ∷ (
    decimal (address / 2 ^ 16 % 256) ++ dot ∷ (
    decimal (address / 2 ^ 8 % 256) ++ dot ∷
    decimal (address % 256)))

-- the printed text of a base address and a length
unfoldable pub prefix_text : ℕ → ℕ → List ℕ
prefix_text base len = address_text base ++ slash ∷ decimal len
