-- The answer of each reader, case by case: the number, address or prefix that the text denotes, or why it denotes none.
use Rattle.std.specs.Prelude.{◌≡◌, ℕ, ◌^◌, ◌<◌, ◌≤◌, List, Option, Some, None, Result, Ok, Err}
use Rattle.rt_cidr.specs.declared.address.Addr.{Addr}
use Rattle.rt_cidr.specs.declared.prefixes.Prefix.{Prefix}
use Rattle.rt_cidr.specs.declared.prefixes.TextFault.{TextFault}
use Rattle.rt_cidr.specs.declared.prefixes.TextFault.TheVariants.{Text, Length, Bits}
use Rattle.rt_cidr.specs.Cidr.{IsPrefix}
use Rattle.rt_cidr.specs.Text.{IsDecimal, IsAddressText, IsPrefixText}

-- the number below 2^32 whose decimal the text is, or no such number exists
abbrev pub ReadsDecimal : List ℕ → Option ℕ → Type 0
ReadsDecimal text (Some n) = IsDecimal text n × (n < 2 ^ 32)
ReadsDecimal text None = (n : ℕ) → n < 2 ^ 32 → ¬ IsDecimal text n

-- the address that the text denotes, or it denotes none
abbrev pub ReadsAddress : List ℕ → Result Addr TextFault → Type 0
ReadsAddress text (Ok address) = IsAddressText text address.0
ReadsAddress text (Err Text) = (address : ℕ) → ¬ IsAddressText text address
ReadsAddress text (Err Length) = ⊥
ReadsAddress text (Err Bits) = ⊥

-- the prefix with this base and length, or why there is none: the length is checked first, then the bits past it
abbrev pub AnswersPair : ℕ → ℕ → Result Prefix TextFault → Type 0
AnswersPair base len (Ok prefix) = (prefix.base ≡ base) × (prefix.len ≡ len)
AnswersPair base len (Err Text) = ⊥
AnswersPair base len (Err Length) = 32 < len
AnswersPair base len (Err Bits) = (len ≤ 32) × ¬ IsPrefix base len

-- the prefix that the text denotes, or why there is none: the text denotes no pair, or what is wrong with the pair
abbrev pub ReadsPrefix : List ℕ → Result Prefix TextFault → Type 0
ReadsPrefix text (Ok prefix) = IsPrefixText text prefix.base prefix.len
ReadsPrefix text (Err Text) = (address len : ℕ) → ¬ IsPrefixText text address len
ReadsPrefix text (Err Length) = (address len : ℕ) × IsPrefixText text address len × (32 < len)
ReadsPrefix text (Err Bits) =
    (address len : ℕ) × IsPrefixText text address len × (len ≤ 32) × ¬ IsPrefix address len
