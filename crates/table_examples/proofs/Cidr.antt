-- Examples that test the definitions of rt_cidr, each under a line with the definition's name. Both sides are computed;
-- a relation or a theorem is spelled out for some values.
use Rattle.std.proofs.Common.{map, ◌≡◌, ℕ, ◌<◌, Bool, true, false, List}
use Rattle.std.proofs.Common.{[], ◌∷◌, ◌++◌, ◌||◌, Some, Ok, Err, codes, take, eqb, refl, ap, subst, ◌∙◌}
use Rattle.std.proofs.Common.{arith}
use Rattle.std.proofs.lemmas.Bool.{eq-eqb, or_right}
use Rattle.std.proofs.lemmas.List.Folds.{list_any-append}
use Rattle.std.specs.List.{list_any}
use Rattle.std.specs.Fmt.{digits}
use Rattle.rt_cidr.specs.declared.address.Addr.{Addr}
use Rattle.rt_cidr.specs.declared.prefixes.Prefix.{Prefix}
use Rattle.rt_cidr.specs.declared.prefixes.TextFault.TheVariants.{Text, Length, Bits}
use Rattle.rt_cidr.specs.Cidr.{size_of, IsPrefix}
use Rattle.rt_cidr.specs.Output.{AppendsBeginning}
use Rattle.rt_cidr.specs.Prefix.{covers, contains, same_prefix}
use Rattle.rt_cidr.specs.Text.{dot, slash, zero_digit, IsDecimal, IsOctetText, IsAddressText, IsPrefixText, address_text, prefix_text}
use Rattle.rt_cidr.specs.Reading.{ReadsPrefix, ReadsDecimal, ReadsAddress, AnswersPair}
use Rattle.rt_cidr.proofs.Fronts.{four_octets}
use Rattle.rt_cidr.proofs.Texts.{decimal_is_decimal, address_one_number, prefix_text_is_pair, pair_one_value}
use Rattle.std.specs.Prelude.{None}

-- 0.0.0.0/0, 10.0.0.0/8, 255.255.255.255/32
abbrev pub everything : Prefix
everything = record { base = 0; len = 0; is_prefix = record { short = omega arith; fits = omega arith; clear = refl } }

abbrev pub ten_8 : Prefix
ten_8 = record { base = 167772160; len = 8; is_prefix = record { short = omega arith; fits = omega arith; clear = refl } }

abbrev pub last_32 : Prefix
last_32 = record { base = 4294967295; len = 32; is_prefix = record { short = omega arith; fits = omega arith; clear = refl } }

-- 0.0.0.0/8 and 10.0.0.0/16
abbrev zero_8 : Prefix
zero_8 = record { base = 0; len = 8; is_prefix = record { short = omega arith; fits = omega arith; clear = refl } }

abbrev pub ten_0_16 : Prefix
ten_0_16 = record { base = 167772160; len = 16; is_prefix = record { short = omega arith; fits = omega arith; clear = refl } }

-- the address of this number
abbrev at : ℕ → Addr
at n = record { 0 = n }

-- size_of
all_addresses : size_of 0 ≡ 4294967296
all_addresses = refl

one_address : size_of 32 ≡ 1
one_address = refl

half_of_them_with_each_bit : map size_of (0 ∷ 1 ∷ 8 ∷ 31 ∷ 32 ∷ []) ≡ 4294967296 ∷ 2147483648 ∷ 16777216 ∷ 2 ∷ 1 ∷ []
half_of_them_with_each_bit = refl

-- IsPrefix
the_last_address_by_itself : IsPrefix 4294967295 32
the_last_address_by_itself = record { short = omega arith; fits = omega arith; clear = refl }

a_prefix_of_8_bits : IsPrefix 167772160 8
a_prefix_of_8_bits = record { short = omega arith; fits = omega arith; clear = refl }

pub a_bit_past_the_length_is_set : ¬ IsPrefix 167772161 8
a_bit_past_the_length_is_set h = let none = h.clear in cc

no_prefix_of_33_bits : ¬ IsPrefix 0 33
no_prefix_of_33_bits h = omega (arith, h.short)

no_length_of_33 : ¬ IsPrefix 0 33
no_length_of_33 h = omega (arith, h.short)

no_base_of_33_bits : ¬ IsPrefix 4294967296 0
no_base_of_33_bits h = omega (arith, h.fits)

-- covers
the_first_and_the_last_of_its_addresses : map (λ n. covers ten_8 (at n)) (167772160 ∷ 184549375 ∷ []) ≡ true ∷ true ∷ []
the_first_and_the_last_of_its_addresses = refl

the_addresses_before_and_behind : map (λ n. covers ten_8 (at n)) (167772159 ∷ 184549376 ∷ []) ≡ false ∷ false ∷ []
the_addresses_before_and_behind = refl

length_0_covers_every_address : covers everything (at 4294967295) ≡ true
length_0_covers_every_address = refl

length_32_covers_one : covers last_32 (at 4294967294) ≡ false
length_32_covers_one = refl

-- same_prefix
the_same_but_none_of_one_base_or_of_one_length_alone :
    map (same_prefix ten_8) (ten_8 ∷ ten_0_16 ∷ zero_8 ∷ []) ≡ true ∷ false ∷ false ∷ []
the_same_but_none_of_one_base_or_of_one_length_alone = refl

of_another_base : same_prefix everything ten_8 ≡ false
of_another_base = refl

-- contains
itself_and_a_longer_one_at_its_base_but_none_beside_it :
    map (contains ten_8) (ten_8 ∷ ten_0_16 ∷ last_32 ∷ []) ≡ true ∷ true ∷ false ∷ []
itself_and_a_longer_one_at_its_base_but_none_beside_it = refl

no_shorter_one : map (λ p. contains p everything) (ten_8 ∷ zero_8 ∷ []) ≡ false ∷ false ∷ []
no_shorter_one = refl

a_longer_one_in_it : contains everything last_32 ≡ true
a_longer_one_in_it = refl

-- zero_digit
the_byte_of_a_zero : codes "0" ≡ zero_digit ∷ []
the_byte_of_a_zero = refl

-- dot
the_byte_of_a_dot : codes "." ≡ dot ∷ []
the_byte_of_a_dot = refl

-- slash
the_byte_of_a_slash : codes "/" ≡ slash ∷ []
the_byte_of_a_slash = refl

-- IsDecimal
decimal_0 : IsDecimal (codes "0") 0
decimal_0 = record { digits = (omega arith, (omega arith, tt)); value = refl; no_leading_zero = λ _. refl }

decimal_8 : IsDecimal (codes "8") 8
decimal_8 = record { digits = (omega arith, (omega arith, tt)); value = refl; no_leading_zero = λ _. refl }

decimal_10 : IsDecimal (codes "10") 10
decimal_10 = record { digits = (omega arith, (omega arith, (omega arith, tt))); value = refl; no_leading_zero = λ zero. cc }

decimal_255 : IsDecimal (codes "255") 255
decimal_255 = record { digits = (omega arith, (omega arith, (omega arith, (omega arith, tt)))); value = refl; no_leading_zero = λ zero. cc }

pub decimal_4294967296 : IsDecimal (codes "4294967296") 4294967296
unfolding digits
decimal_4294967296 = decimal_is_decimal 4294967296 (omega arith)

no_leading_zero : ¬ IsDecimal (codes "08") 8
no_leading_zero h = let one = h.no_leading_zero refl in cc

no_digit_at_all : (n : ℕ) → ¬ IsDecimal [] n
no_digit_at_all n h = omega (arith, h.digits.0)

no_sign : (n : ℕ) → ¬ IsDecimal (codes "+1") n
no_sign n h = omega (arith, h.digits.1.0)

-- IsOctetText
the_greatest_octet : IsOctetText (codes "255") 255
the_greatest_octet = record { spelled = decimal_255; fits = omega arith }

no_octet_of_256 : (n : ℕ) → ¬ IsOctetText (codes "256") n
no_octet_of_256 n h = let value = h.spelled.value in omega (arith, h.fits)

-- addresses are of these octets
octet_0 : IsOctetText (codes "0") 0
octet_0 = record { spelled = decimal_0; fits = omega arith }

octet_10 : IsOctetText (codes "10") 10
octet_10 = record { spelled = decimal_10; fits = omega arith }

-- IsAddressText
address_10_0_0_0 : IsAddressText (codes "10.0.0.0") 167772160
address_10_0_0_0 = four_octets octet_10 octet_0 octet_0 octet_0

the_last_address : IsAddressText (codes "255.255.255.255") 4294967295
the_last_address = four_octets the_greatest_octet the_greatest_octet the_greatest_octet the_greatest_octet

the_first_octet_is_the_most_significant : ¬ IsAddressText (codes "10.0.0.0") 10
the_first_octet_is_the_most_significant h = let same = address_one_number (codes "10.0.0.0") 167772160 10 address_10_0_0_0 h in cc

-- IsPrefixText
pair_10_0_0_0_8 : IsPrefixText (codes "10.0.0.0/8") 167772160 8
pair_10_0_0_0_8 = record { address_part = codes "10.0.0.0"; len_part = codes "8"; is_address = address_10_0_0_0; is_len = decimal_8; joined = refl }

pub pair_10_0_0_1_8 : IsPrefixText (codes "10.0.0.1/8") 167772161 8
unfolding digits address_text prefix_text
pair_10_0_0_1_8 = prefix_text_is_pair 167772161 8 (omega arith) (omega arith)

pub pair_10_0_0_1_33 : IsPrefixText (codes "10.0.0.1/33") 167772161 33
unfolding digits address_text prefix_text
pair_10_0_0_1_33 = prefix_text_is_pair 167772161 33 (omega arith) (omega arith)

-- address_text
two_addresses_as_they_are_written : map address_text (3221225985 ∷ 4294967295 ∷ []) ≡ codes "192.0.2.1" ∷ codes "255.255.255.255" ∷ []
unfolding digits address_text
two_addresses_as_they_are_written = refl

-- prefix_text
a_prefix_as_it_is_written : prefix_text 167772160 8 ≡ codes "10.0.0.0/8"
unfolding digits address_text prefix_text
a_prefix_as_it_is_written = refl

-- true if a byte occurs in a text
abbrev pub has_byte : ℕ → List ℕ → Bool
has_byte mark text = list_any (λ byte. eqb byte mark) text

-- a text with the mark somewhere has it
has_byte-joined : (mark : ℕ) (front rest : List ℕ) → has_byte mark (front ++ mark ∷ rest) ≡ true
has_byte-joined mark front rest =
    list_any-append (λ byte. eqb byte mark) front (mark ∷ rest)
    ∙ or_right (has_byte mark front) (eqb mark mark || has_byte mark rest)
    (ap (λ b. b || has_byte mark rest) (eq-eqb mark mark refl))

-- a text without a dot isn't an address, and a text without a dot or a slash isn't a prefix
pub no_address_without_a_dot : (text : List ℕ) (address : ℕ) → has_byte dot text ≡ false → ¬ IsAddressText text address
no_address_without_a_dot text address none h =
    let some = ap (has_byte dot) h.joined ∙ has_byte-joined dot h.first_text _ in cc

pub no_prefix_without_a_slash : (text : List ℕ) (address len : ℕ) → has_byte slash text ≡ false → ¬ IsPrefixText text address len
no_prefix_without_a_slash text address len none h =
    let some = ap (has_byte slash) h.joined ∙ has_byte-joined slash h.address_part h.len_part in cc

pub no_prefix_without_a_dot : (text : List ℕ) (address len : ℕ) → has_byte dot text ≡ false → ¬ IsPrefixText text address len
no_prefix_without_a_dot text address len none h =
    let address_has = ap (has_byte dot) h.is_address.joined ∙ has_byte-joined dot h.is_address.first_text _ in
    let both = ap (has_byte dot) h.joined ∙ list_any-append (λ byte. eqb byte dot) h.address_part (slash ∷ h.len_part) in
    let some : has_byte dot text ≡ true = both ∙ ap (λ b. b || has_byte dot (slash ∷ h.len_part)) address_has in cc

-- AppendsBeginning
two_bytes_of_three : AppendsBeginning (Some (codes "a")) (Some (codes "abc")) (codes "bcd")
two_bytes_of_three = record { count = 2; within = omega arith; appended = refl }

none_of_them : AppendsBeginning (Some (codes "a")) (Some (codes "a")) (codes "b")
none_of_them = record { count = 0; within = omega arith; appended = refl }

never_all_of_them : ¬ AppendsBeginning (Some []) (Some (codes "b")) (codes "b")
never_all_of_them h =
    let zero : h.count ≡ 0 = omega (arith, h.within) in
    let same = subst (λ n. codes "b" ≡ [] ++ take n (codes "b")) zero h.appended in cc

-- ReadsPrefix
reads_10_0_0_0_8 : ReadsPrefix (codes "10.0.0.0/8") (Ok ten_8)
reads_10_0_0_0_8 = pair_10_0_0_0_8

no_length_is_no_prefix : ReadsPrefix (codes "10.0.0.0") (Err Text)
no_length_is_no_prefix = λ address len. no_prefix_without_a_slash (codes "10.0.0.0") address len refl

pub length_before_bits : ReadsPrefix (codes "10.0.0.1/33") (Err Length)
length_before_bits = (167772161, 33, pair_10_0_0_1_33, omega arith)

not_bits_before_length : ¬ ReadsPrefix (codes "10.0.0.1/33") (Err Bits)
not_bits_before_length (address, len, is, short, none) =
    let same = pair_one_value (codes "10.0.0.1/33") address 167772161 len 33 is pair_10_0_0_1_33 in omega (arith, same.1)

pub bit_past_the_length : ReadsPrefix (codes "10.0.0.1/8") (Err Bits)
bit_past_the_length = (167772161, 8, pair_10_0_0_1_8, omega arith, a_bit_past_the_length_is_set)

no_pair_has_it : (text : List ℕ) → ReadsPrefix text (Err Text) → (address len : ℕ) → ¬ IsPrefixText text address len
no_pair_has_it text h = h

-- ReadsDecimal
none_of_its_numbers : (text : List ℕ) → ReadsDecimal text None → (n : ℕ) → n < 4294967296 → ¬ IsDecimal text n
none_of_its_numbers text h = h

-- ReadsAddress
no_address_has_it : (text : List ℕ) → ReadsAddress text (Err Text) → (address : ℕ) → ¬ IsAddressText text address
no_address_has_it text h = h

no_other_fault_of_an_address : (text : List ℕ) → (¬ ReadsAddress text (Err Length)) × (¬ ReadsAddress text (Err Bits))
no_other_fault_of_an_address text = (λ h. h, λ h. h)

-- AnswersPair
a_pair_is_no_text : (base len : ℕ) → ¬ AnswersPair base len (Err Text)
a_pair_is_no_text base len h = h
