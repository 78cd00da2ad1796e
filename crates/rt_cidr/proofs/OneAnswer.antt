-- Each text has one answer, and the text written for a value denotes that value.
use Rattle.std.proofs.Common.{◌≡◌, ℕ, ◌^◌, ◌<◌, List, Option, Some, None, Result, Ok, Err, decimal, refl, sym, ap, ◌∙◌, arith}
use Rattle.rt_cidr.specs.declared.address.Addr.{Addr}
use Rattle.rt_cidr.specs.declared.prefixes.Prefix.{Prefix}
use Rattle.rt_cidr.specs.declared.prefixes.TextFault.{TextFault}
use Rattle.rt_cidr.specs.declared.prefixes.TextFault.TheVariants.{Text, Length, Bits}
use Rattle.rt_cidr.specs.Cidr.{IsPrefix}
use Rattle.rt_cidr.specs.Text.{IsPrefixText, address_text, prefix_text}
use Rattle.rt_cidr.specs.Reading.{ReadsDecimal, ReadsAddress, ReadsPrefix, AnswersPair}
use Rattle.rt_cidr.proofs.Ranges.{prefix_by_parts}
use Rattle.rt_cidr.proofs.Texts.{decimal_one_number, address_one_number, pair_one_value, decimal_is_decimal, address_text_is_address, prefix_text_is_pair}

pub decimal_one_answer : (text : List ℕ) (one two : Option ℕ) → ReadsDecimal text one →
    ReadsDecimal text two → one ≡ two
decimal_one_answer text (Some m) (Some n) one two = ap Some (decimal_one_number text m n one.0 two.0)
decimal_one_answer text (Some m) None one two = absurd (two m one.1 one.0)
decimal_one_answer text None (Some n) one two = absurd (one n two.1 two.0)
decimal_one_answer text None None one two = refl

pub same_address : (a b : Addr) → a.0 ≡ b.0 → a ≡ b
same_address a b e = ap (λ (n : ℕ). let c : Addr = record { 0 = n } in c) e

pub address_one_answer : (text : List ℕ) (one two : Result Addr TextFault) → ReadsAddress text one →
    ReadsAddress text two → one ≡ two
address_one_answer text (Ok a) (Ok b) one two = ap Ok (same_address a b (address_one_number text a.0 b.0 one two))
address_one_answer text (Ok a) (Err Text) one two = absurd (two a.0 one)
address_one_answer text (Err Text) (Ok b) one two = absurd (one b.0 two)
address_one_answer text (Err Text) (Err Text) one two = refl
address_one_answer text (Err Length) two one _ = absurd one
address_one_answer text (Err Bits) two one _ = absurd one
address_one_answer text (Ok a) (Err Length) _ two = absurd two
address_one_answer text (Ok a) (Err Bits) _ two = absurd two
address_one_answer text (Err Text) (Err Length) _ two = absurd two
address_one_answer text (Err Text) (Err Bits) _ two = absurd two

-- the length of a prefix isn't too long, and its base has no bit set past it
not_too_long : (q : Prefix) (len : ℕ) → q.len ≡ len → ¬ (32 < len)
not_too_long q len same long = omega (arith, q.is_prefix.short)

no_bits : (q : Prefix) (base len : ℕ) → q.base ≡ base → q.len ≡ len → ¬ (¬ (IsPrefix base len))
no_bits q base len same_base same_len none = none (rw (same_base, same_len) at q.is_prefix)

pub pair_one_answer : (base len : ℕ) (one two : Result Prefix TextFault) → AnswersPair base len one →
    AnswersPair base len two → one ≡ two
pair_one_answer base len (Ok p) (Ok q) one two = ap Ok (prefix_by_parts p q (one.0 ∙ sym two.0) (one.1 ∙ sym two.1))
pair_one_answer base len (Ok p) (Err Length) one two = absurd (not_too_long p len one.1 two)
pair_one_answer base len (Ok p) (Err Bits) one two = absurd (no_bits p base len one.0 one.1 two.1)
pair_one_answer base len (Err Length) (Ok q) one two = absurd (not_too_long q len two.1 one)
pair_one_answer base len (Err Length) (Err Length) one two = refl
pair_one_answer base len (Err Length) (Err Bits) one two = absurd (omega (arith, one, two.0))
pair_one_answer base len (Err Bits) (Ok q) one two = absurd (no_bits q base len two.0 two.1 one.1)
pair_one_answer base len (Err Bits) (Err Length) one two = absurd (omega (arith, one.0, two))
pair_one_answer base len (Err Bits) (Err Bits) one two = refl
pair_one_answer base len (Err Text) two one _ = absurd one
pair_one_answer base len (Ok p) (Err Text) _ two = absurd two
pair_one_answer base len (Err Length) (Err Text) _ two = absurd two
pair_one_answer base len (Err Bits) (Err Text) _ two = absurd two

-- the answer for a text that denotes a pair is the answer for the pair
pub pair_answer : (text : List ℕ) (address len : ℕ) → IsPrefixText text address len →
    (answer : Result Prefix TextFault) → ReadsPrefix text answer → AnswersPair address len answer
pair_answer text address len h (Ok q) reads = pair_one_value text q.base address q.len len reads h
pair_answer text address len h (Err Text) reads = reads address len h
pair_answer text address len h (Err Length) reads =
    let (other, n, other_text, long) = reads in
    rw (pair_one_value text other address n len other_text h).1 at long
pair_answer text address len h (Err Bits) reads =
    let (other, n, other_text, short, none) = reads in
    let same = pair_one_value text other address n len other_text h in
    (rw same.1 at short, rw (same.0, same.1) at none)

-- every answer except the first fault implies that the text denotes a pair
pub prefix_one_answer : (text : List ℕ) (one two : Result Prefix TextFault) → ReadsPrefix text one →
    ReadsPrefix text two → one ≡ two
prefix_one_answer text (Ok q) two one h =
    pair_one_answer q.base q.len (Ok q) two (refl, refl) (pair_answer text q.base q.len one two h)
prefix_one_answer text (Err Length) two one h =
    let (address, len, is_text, long) = one in
    pair_one_answer address len (Err Length) two long (pair_answer text address len is_text two h)
prefix_one_answer text (Err Bits) two one h =
    let (address, len, is_text, short, none) = one in
    pair_one_answer address len (Err Bits) two (short, none) (pair_answer text address len is_text two h)
prefix_one_answer text (Err Text) (Err Text) one h = refl
prefix_one_answer text (Err Text) (Ok q) one h = absurd (one q.base q.len h)
prefix_one_answer text (Err Text) (Err Length) one h = absurd (one h.0 h.1 h.2)
prefix_one_answer text (Err Text) (Err Bits) one h = absurd (one h.0 h.1 h.2)

-- reading what is written returns the same value
pub decimal_again : (n : ℕ) (answer : Option ℕ) → n < 2 ^ 32 → ReadsDecimal (decimal n) answer → answer ≡ Some n
decimal_again n answer small h = decimal_one_answer (decimal n) answer (Some n) h (decimal_is_decimal n (omega arith), small)

pub address_again : (address : Addr) (answer : Result Addr TextFault) → address.0 < 2 ^ 32 →
    ReadsAddress (address_text address.0) answer → answer ≡ Ok address
address_again address answer small h =
    address_one_answer (address_text address.0) answer (Ok address) h (address_text_is_address address.0 small)

pub prefix_is_written : (prefix : Prefix) → IsPrefixText (prefix_text prefix.base prefix.len) prefix.base prefix.len
prefix_is_written prefix =
    prefix_text_is_pair prefix.base prefix.len prefix.is_prefix.fits (omega (arith, prefix.is_prefix.short))

pub prefix_again : (prefix : Prefix) (answer : Result Prefix TextFault) →
    ReadsPrefix (prefix_text prefix.base prefix.len) answer → answer ≡ Ok prefix
prefix_again prefix answer h =
    prefix_one_answer (prefix_text prefix.base prefix.len) answer (Ok prefix) h (prefix_is_written prefix)
