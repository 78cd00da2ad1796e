-- How a short text grows piece by piece, and the maximum lengths of the texts of numbers, addresses and prefixes.
use Rattle.std.proofs.Common.{ℕ, suc, zero, ◌+◌, ◌/◌, ◌%◌, ◌^◌, ◌<◌, ◌≤◌, List, [], ◌∷◌, false, length, decimal, append_assoc, length-append, lit≤, arith}
use Rattle.std.proofs.lemmas.Bool.Decides.{nat_tests}
use Rattle.std.proofs.lemmas.Fmt.{length-decimal-le}
use Rattle.std.specs.Fmt.{digit_glyph, digits_onto, digits}
use Rattle.rt_cidr.specs.Text.{slash, address_text, prefix_text}

-- lemmas on prepending: texts join associatively, and their lengths add up
pub ruleset prepending = (length-append, append_assoc)

length-digits_onto : (k n : ℕ) (acc : List ℕ) → length (digits_onto k 10 false n acc) ≤ k + length acc
length-digits_onto zero n acc = omega arith
length-digits_onto (suc k) n acc = grind (arith, nat_tests, length-digits_onto k (n / 10) (digit_glyph false (n % 10) ∷ acc))

-- a decimal has at most 64 digits, whatever its number
pub length-decimal : (n : ℕ) → length (decimal n) ≤ 64
unfolding digits
length-decimal n = omega (arith, length-digits_onto 64 n [])

length-octet : (n : ℕ) → n < 256 → length (decimal n) ≤ 3
length-octet n small = length-decimal-le 3 n (lit≤ tt) (omega arith) (omega arith)

pub length-address_text : (address : ℕ) → length (address_text address) ≤ 15
unfolding address_text
length-address_text address =
    let first = length-octet (address / 2 ^ 24 % 256) (omega arith) in
    let second = length-octet (address / 2 ^ 16 % 256) (omega arith) in
    let third = length-octet (address / 2 ^ 8 % 256) (omega arith) in
    let fourth = length-octet (address % 256) (omega arith) in
    simp length-append (omega arith)

pub length-prefix_text : (base len : ℕ) → length (prefix_text base len) ≤ 80
unfolding prefix_text
length-prefix_text base len =
    omega (arith, length-append (address_text base) (slash ∷ decimal len), length-address_text base, length-decimal len)

-- a decimal, an address and a prefix fit in a short text
pub ruleset lengths = (length-decimal, length-address_text, length-prefix_text)
