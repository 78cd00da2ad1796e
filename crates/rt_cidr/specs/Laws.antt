-- Theorems about the text forms and about prefixes.
use Rattle.std.specs.Prelude.{◌≡◌, ℕ, ◌+◌, ◌^◌, ◌<◌, ◌≤◌, ◌↔◌, IsTrue, List, Option, Some, Result, Ok, decimal}
use Rattle.rt_cidr.specs.declared.address.Addr.{Addr}
use Rattle.rt_cidr.specs.declared.prefixes.Prefix.{Prefix}
use Rattle.rt_cidr.specs.declared.prefixes.TextFault.{TextFault}
use Rattle.rt_cidr.specs.Cidr.{size_of}
use Rattle.rt_cidr.specs.Prefix.{covers, contains}
use Rattle.rt_cidr.specs.Text.{IsDecimal, IsAddressText, IsPrefixText, address_text, prefix_text}
use Rattle.rt_cidr.specs.Reading.{ReadsDecimal, ReadsAddress, ReadsPrefix, AnswersPair}

-- a text denotes at most one number
abbrev pub HasOneNumber : (List ℕ → ℕ → Type 0) → Type 0
HasOneNumber IsText = (text : List ℕ) (m n : ℕ) → IsText text m → IsText text n → m ≡ n

-- a number has at most one text
abbrev pub HasOneText : (List ℕ → ℕ → Type 0) → Type 0
HasOneText IsText = (text other : List ℕ) (n : ℕ) → IsText text n → IsText other n → text ≡ other

-- a text denotes at most one pair of an address and a length
abbrev pub HasOnePair : Type 0
HasOnePair =
    (text : List ℕ) (address other m n : ℕ) →
    IsPrefixText text address m → IsPrefixText text other n → (address ≡ other) × (m ≡ n)

-- a pair has at most one text
abbrev pub PairHasOneText : Type 0
PairHasOneText =
    (text other : List ℕ) (address len : ℕ) →
    IsPrefixText text address len → IsPrefixText other address len → text ≡ other

-- an address that a text denotes has 32 bits
abbrev pub AddressFits : Type 0
AddressFits = (text : List ℕ) (address : ℕ) → IsAddressText text address → address < 2 ^ 32

-- reading a text has at most one answer
abbrev pub HasOneAnswer : {A : Type 0} → (List ℕ → A → Type 0) → Type 0
HasOneAnswer {A} Reads = (text : List ℕ) (one two : A) → Reads text one → Reads text two → one ≡ two

-- making a prefix of a base and a length has at most one answer
abbrev pub PairHasOneAnswer : Type 0
PairHasOneAnswer =
    (base len : ℕ) (one two : Result Prefix TextFault) →
    AnswersPair base len one → AnswersPair base len two → one ≡ two

-- the text written for a number below 2^64 is its decimal
abbrev pub WritesDecimal : Type 0
WritesDecimal = (n : ℕ) → n < 2 ^ 64 → IsDecimal (decimal n) n

-- the text written for an address denotes the address
abbrev pub WritesAddress : Type 0
WritesAddress = (address : ℕ) → address < 2 ^ 32 → IsAddressText (address_text address) address

-- the text written for a prefix denotes the prefix
abbrev pub WritesPrefix : Type 0
WritesPrefix = (p : Prefix) → IsPrefixText (prefix_text p.base p.len) p.base p.len

-- reading the text written for a number returns the number
abbrev pub ReadsDecimalAgain : Type 0
ReadsDecimalAgain =
    (n : ℕ) (answer : Option ℕ) → n < 2 ^ 32 → ReadsDecimal (decimal n) answer → answer ≡ Some n

-- reading the text written for an address returns the address
abbrev pub ReadsAddressAgain : Type 0
ReadsAddressAgain =
    (a : Addr) (answer : Result Addr TextFault) → a.0 < 2 ^ 32 →
    ReadsAddress (address_text a.0) answer → answer ≡ Ok a

-- reading the text written for a prefix returns the prefix
abbrev pub ReadsPrefixAgain : Type 0
ReadsPrefixAgain =
    (p : Prefix) (answer : Result Prefix TextFault) →
    ReadsPrefix (prefix_text p.base p.len) answer → answer ≡ Ok p

-- two prefixes of equal base and length are equal
abbrev pub SamePrefix : Type 0
SamePrefix = (p q : Prefix) → p.base ≡ q.base → p.len ≡ q.len → p ≡ q

-- a prefix covers the addresses from its base on, `size_of len` of them
abbrev pub CoversItsRange : Type 0
CoversItsRange =
    (p : Prefix) (a : Addr) →
    IsTrue (covers p a) ↔ ((p.base ≤ a.0) × (a.0 < p.base + size_of p.len))

-- a prefix contains those that aren't shorter and whose base is in its range
abbrev pub ContainsByRange : Type 0
ContainsByRange =
    (p q : Prefix) →
    IsTrue (contains p q) ↔ ((p.len ≤ q.len) × (p.base ≤ q.base) × (q.base < p.base + size_of p.len))

-- a prefix contains another if and only if it covers every address that the other covers
abbrev pub ContainsWhatItCovers : Type 0
ContainsWhatItCovers =
    (p q : Prefix) →
    IsTrue (contains p q) ↔ ((a : Addr) → a.0 < 2 ^ 32 → IsTrue (covers q a) → IsTrue (covers p a))

-- if two prefixes cover the same address, the shorter contains the longer
abbrev pub CoveringAreNested : Type 0
CoveringAreNested =
    (p q : Prefix) (a : Addr) →
    IsTrue (covers p a) → IsTrue (covers q a) → p.len ≤ q.len → IsTrue (contains p q)

-- two prefixes of equal length that cover the same address are equal
abbrev pub CoveringAreSame : Type 0
CoveringAreSame =
    (p q : Prefix) (a : Addr) →
    IsTrue (covers p a) → IsTrue (covers q a) → p.len ≡ q.len → p ≡ q
