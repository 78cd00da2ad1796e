-- Examples that test the definitions of rt_feed, each below a line with the definition's name. Both sides are computed;
-- relations and laws are spelled out for some values.
use Rattle.std.proofs.Common.{◌≡◌, ◌≢◌, ℕ, true, false, List, [], ◌∷◌, ◌++◌, length, map, slice_index, eqb, Some, None, Ok, Err, inl, inr, codes, refl}
use Rattle.std.proofs.Common.{sym, ap, ◌∙◌, subst, arith}
use Rattle.std.proofs.lemmas.Bool.{or_parts, eqb-false}
use Rattle.std.proofs.lemmas.List.Elements.{All-nil, All-cons}
use Rattle.std.specs.List.{All, list_any}
use Rattle.std.specs.Fmt.{digits}
use Rattle.rt_cidr.specs.declared.address.Addr.{Addr}
use Rattle.rt_cidr.specs.Cidr.{IsPrefix}
use Rattle.rt_cidr.specs.declared.prefixes.TextFault.TheVariants as reason
use Rattle.rt_cidr.specs.Text.{slash, IsDecimal, IsAddressText, IsPrefixText, address_text, prefix_text}
use Rattle.table_examples.proofs.Cidr.{decimal_4294967296, no_address_without_a_dot, no_prefix_without_a_dot}
use Rattle.rt_cidr.proofs.Promised.{decimal_is_decimal, decimal_one_number, address_text_is_address, pair_one_value, prefix_is_written}
use Rattle.table_examples.proofs.Cidr.{ten_8}
use Rattle.table_examples.proofs.Rib.{ten_1_16, ten_2_16, ten_3_16, ten_9_16, at_10_1_2_3, at_10_9_0_1, via_192_0_2, route_via}
use Rattle.rt_rib.specs.declared.routes.Hop.TheVariants.{Via, Discard}
use Rattle.rt_rib.specs.declared.commands.Cmd.{Cmd}
use Rattle.rt_rib.specs.declared.commands.Cmd.TheVariants.{Add, Replace, Withdraw, Lookup, Dump, Purge}
use Rattle.rt_rib.specs.declared.commands.Reply.{Reply}
use Rattle.rt_rib.specs.declared.commands.Reply.TheVariants.{Added, Exists, Full, Replaced, Withdrawn, Missing, Found, NoRoute, Dumped, Purged}
use Rattle.rt_shared.specs.declared.outcome.Outcome.TheVariants as outcome
use Rattle.rt_feed.specs.declared.addresses.AddressText.{AddressText}
use Rattle.rt_feed.specs.declared.parse.LineFault.{LineFault}
use Rattle.rt_feed.specs.declared.parse.LineFault.TheVariants as fault
use Rattle.rt_feed.specs.declared.report.Answer.TheVariants as answer
use Rattle.rt_feed.specs.declared.versions.Version.TheVariants.{One, Two}
use Rattle.rt_feed.specs.CommandText.{space, words, route_words, command_text, HasHop, HasCommand}
use Rattle.rt_feed.specs.Commands.{prefix, preference, hop, address, Form, commands, has, kinds_in, kinds_among}
use Rattle.rt_feed.specs.Grammar.{hash, is_skipped, fields, kinds_after, IsOfKind, IsFaultOf}
use Rattle.rt_feed.specs.Grammar.{IsFirstFault, IsFaultAfter, IsFaultOfFields, AnswersLine}
use Rattle.rt_feed.specs.Addresses.{AnswersAddressLine, AddressRow, address_row, invalid_row, rows_said, addresses_in, invalid_in, faults_said, faulty_lines, SaysAddresses, AreOfRows, ReadsAddresses}
use Rattle.rt_feed.specs.Lines.{lf, CutsLine, HasVersion2Header, IsBody, LineOutcome, skipped, faulty, asked}
use Rattle.rt_feed.specs.Lines.{reading, heading, LinesParseAs, LinesYield, TextYields, line_answer, command_answer, numbered, report_lines, command_of, commands_of}
use Rattle.rt_feed.specs.Reports.{is_refusal, is_fault, has_refusal, has_fault}
use Rattle.rt_feed.specs.Visits.{concatenated, AreOneList, piece_of, IsSplitInto}
use Rattle.rt_feed.specs.Printed.{reply_text, fault_text, answer_text, line_text, report_text}
use Rattle.rt_print.specs.Routes.{route_text}
use Rattle.std.specs.Prelude.{◌<◌, ◌-◌, ◌^◌, ◌%◌, Option}
use Rattle.rt_feed.specs.declared.versions.Version.{Version}
use Rattle.std.specs.declared.result.Result.{Result}

-- the address 192.0.2.1, and the command of the first line of examples/first.feed
abbrev pub at_192_0_2_1 : Addr
at_192_0_2_1 = record { 0 = 3221225985 }

abbrev add_10 : Cmd
add_10 = Add ten_8 100 (Via at_192_0_2_1)

-- space
two_words_and_a_space : codes "a b" ≡ 97 ∷ space ∷ 98 ∷ []
two_words_and_a_space = refl

-- hash
the_byte_of_a_comment : codes "#" ≡ hash ∷ []
the_byte_of_a_comment = refl

-- lf
the_byte_of_a_line_feed : codes "\n" ≡ lf ∷ []
the_byte_of_a_line_feed = refl

-- route_words
a_prefix_a_preference_and_a_hop : route_words ten_8 100 Discard ≡ codes "10.0.0.0/8" ∷ codes "100" ∷ codes "discard" ∷ []
unfolding digits address_text prefix_text
a_prefix_a_preference_and_a_hop = refl

-- words
words_of_a_withdrawal : words (Withdraw ten_8) ≡ codes "withdraw" ∷ codes "10.0.0.0/8" ∷ []
unfolding digits address_text prefix_text
words_of_a_withdrawal = refl

words_of_a_replacement : words (Replace ten_8 100 Discard) ≡ codes "replace" ∷ route_words ten_8 100 Discard
words_of_a_replacement = refl

words_of_a_purge : words Purge ≡ codes "purge" ∷ []
words_of_a_purge = refl

-- HasHop
an_address_in_version_1 : HasHop One (Via at_192_0_2_1)
an_address_in_version_1 = omega arith

discard_in_version_2 : HasHop Two Discard
discard_in_version_2 = refl

no_discard_in_version_1 : ¬ HasHop One Discard
no_discard_in_version_1 h = cc

-- command_text
the_text_of_an_add : command_text add_10 ≡ codes "add 10.0.0.0/8 100 192.0.2.1"
unfolding digits address_text prefix_text
the_text_of_an_add = refl

the_text_of_a_discard : command_text (Add ten_8 100 Discard) ≡ codes "add 10.0.0.0/8 100 discard"
unfolding digits address_text prefix_text
the_text_of_a_discard = refl

the_text_of_a_look_up : command_text (Lookup at_192_0_2_1) ≡ codes "lookup 192.0.2.1"
unfolding digits address_text
the_text_of_a_look_up = refl

the_text_of_a_dump : command_text Dump ≡ codes "dump"
the_text_of_a_dump = refl

-- HasCommand
version_1_has_no_purge : ¬ HasCommand One Purge
version_1_has_no_purge h = cc

version_2_has_it : HasCommand Two Purge
version_2_has_it = refl

version_1_has_no_discard : ¬ HasCommand One (Add ten_8 100 Discard)
version_1_has_no_discard h = let same = h.2 in cc

-- is_skipped
an_empty_line_is_skipped : is_skipped [] ≡ true
an_empty_line_is_skipped = refl

a_comment_is_skipped : is_skipped (codes "# dump") ≡ true
a_comment_is_skipped = refl

a_blank_is_not : is_skipped (codes " # dump") ≡ false
a_blank_is_not = refl

-- fields
cut_at_every_space : fields (codes "add  x") ≡ codes "add" ∷ [] ∷ codes "x" ∷ []
cut_at_every_space = refl

-- kinds_after
a_route_has_three_fields : kinds_after One (codes "add") ≡ Some (prefix ∷ preference ∷ hop One ∷ [])
a_route_has_three_fields = refl

no_purge_in_version_1 : kinds_after One (codes "purge") ≡ None
no_purge_in_version_1 = refl

a_purge_in_version_2 : kinds_after Two (codes "purge") ≡ Some []
a_purge_in_version_2 = refl

names_are_in_small_letters : kinds_after Two (codes "Dump") ≡ None
names_are_in_small_letters = refl

-- a text for each command's name, in order, and one that is no command's
abbrev first_fields : List (List ℕ)
first_fields = codes "add" ∷ codes "replace" ∷ codes "withdraw" ∷ codes "lookup" ∷ codes "dump" ∷ codes "purge" ∷ codes "frob" ∷ []

after_each_name :
    map (kinds_after One) first_fields
    ≡ Some (prefix ∷ preference ∷ hop One ∷ []) ∷ Some (prefix ∷ preference ∷ hop One ∷ []) ∷ Some (prefix ∷ []) ∷ Some (address ∷ []) ∷ Some []
    ∷ None ∷ None ∷ []
after_each_name = refl

after_each_name_in_version_2 :
    map (kinds_after Two) first_fields
    ≡ Some (prefix ∷ preference ∷ hop Two ∷ []) ∷ Some (prefix ∷ preference ∷ hop Two ∷ []) ∷ Some (prefix ∷ []) ∷ Some (address ∷ []) ∷ Some []
    ∷ Some [] ∷ None ∷ []
after_each_name_in_version_2 = refl

-- kinds_in
abbrev came_with_version_2 : Form
came_with_version_2 = record { word = codes "frob"; kinds = λ version. address ∷ []; since = Two }

a_word_of_version_2 : kinds_in Two came_with_version_2 ≡ Some (address ∷ [])
a_word_of_version_2 = refl

no_word_of_version_1 : kinds_in One came_with_version_2 ≡ None
no_word_of_version_1 = refl

-- kinds_among
among_no_commands : kinds_among [] One (codes "dump") ≡ None
among_no_commands = refl

among_all_commands : kinds_among commands One (codes "lookup") ≡ Some (address ∷ [])
among_all_commands = refl

-- has
what_each_version_has : (has One One ≡ true) × (has Two One ≡ true) × (has One Two ≡ false) × (has Two Two ≡ true)
what_each_version_has = (refl, refl, refl, refl)

-- commands
each_name_once : map (λ (form : Form). form.word) commands ≡ codes "add" ∷ codes "replace" ∷ codes "withdraw" ∷ codes "lookup" ∷ codes "dump" ∷ codes "purge" ∷ []
each_name_once = refl

only_purge_came_with_version_2 : map (λ (form : Form). form.since) commands ≡ One ∷ One ∷ One ∷ One ∷ One ∷ Two ∷ []
only_purge_came_with_version_2 = refl

-- the text of an address, a slash and a length of any size
pair_text : (digits : List ℕ) (base len : ℕ) → base < 2 ^ 32 → IsDecimal digits len → IsPrefixText (address_text base ++ slash ∷ digits) base len
pair_text digits base len fits spelled = record {
  address_part = address_text base;
  len_part = digits;
  is_address = address_text_is_address base fits;
  is_len = spelled;
  joined = refl;
}

of_a_length_over_32 : IsPrefixText (codes "192.0.2.1/50") 3221225985 50
unfolding digits address_text
of_a_length_over_32 = pair_text (codes "50") 3221225985 50 (omega arith) (decimal_is_decimal 50 (omega arith))

of_an_address_with_a_bit : IsPrefixText (codes "192.0.2.1/10") 3221225985 10
unfolding digits address_text
of_an_address_with_a_bit = pair_text (codes "10") 3221225985 10 (omega arith) (decimal_is_decimal 10 (omega arith))

of_no_pair_without_a_dot : (base len : ℕ) → ¬ IsPrefixText (codes "10/33") base len
of_no_pair_without_a_dot base len is = no_prefix_without_a_dot (codes "10/33") base len refl is

-- IsOfKind
no_prefix_50 : ¬ IsOfKind prefix (codes "192.0.2.1/50")
no_prefix_50 (p, same) =
    let is : IsPrefixText (codes "192.0.2.1/50") p.base p.len = subst (λ text. IsPrefixText text p.base p.len) (sym same) (prefix_is_written p) in
    let one = pair_one_value (codes "192.0.2.1/50") p.base 3221225985 p.len 50 is of_a_length_over_32 in
    omega (arith, one.1, p.is_prefix.short)

a_bit_is_set : ¬ IsPrefix 3221225985 10
a_bit_is_set h = let clear : 3221225985 % 2 ^ (32 - 10) ≡ 0 = h.clear in omega (arith, clear)

no_prefix_with_a_bit : ¬ IsOfKind prefix (codes "192.0.2.1/10")
no_prefix_with_a_bit (p, same) =
    let is : IsPrefixText (codes "192.0.2.1/10") p.base p.len = subst (λ text. IsPrefixText text p.base p.len) (sym same) (prefix_is_written p) in
    let one = pair_one_value (codes "192.0.2.1/10") p.base 3221225985 p.len 10 is of_an_address_with_a_bit in
    a_bit_is_set (rw (one.0, one.1) at p.is_prefix)

no_prefix_33_by_1 : ¬ IsOfKind prefix (codes "10/33")
no_prefix_33_by_1 (p, same) =
    no_prefix_without_a_dot (codes "10/33") p.base p.len refl (subst (λ text. IsPrefixText text p.base p.len) (sym same) (prefix_is_written p))

no_address_10 : ¬ IsOfKind address (codes "10")
no_address_10 (a, fits, same) =
    no_address_without_a_dot (codes "10") a.0 refl (subst (λ text. IsAddressText text a.0) (sym same) (address_text_is_address a.0 fits))

preference_too_large : ¬ IsOfKind preference (codes "4294967296")
preference_too_large (pref, fits, same) =
    let is : IsDecimal (codes "4294967296") pref = subst (λ text. IsDecimal text pref) (sym same) (decimal_is_decimal pref (omega (arith, fits))) in
    let one = decimal_one_number (codes "4294967296") pref 4294967296 is decimal_4294967296 in
    omega (arith, fits, one)

discard_is_no_hop_in_version_1 : ¬ IsOfKind (hop One) (codes "discard")
discard_is_no_hop_in_version_1 (Via a, fits, same) =
    no_address_without_a_dot (codes "discard") a.0 refl (subst (λ text. IsAddressText text a.0) (sym same) (address_text_is_address a.0 fits))
discard_is_no_hop_in_version_1 (Discard, has, same) = cc

is_10 : IsOfKind prefix (codes "10.0.0.0/8")
unfolding digits address_text prefix_text
is_10 = (ten_8, refl)

is_100 : IsOfKind preference (codes "100")
unfolding digits
is_100 = (100, omega arith, refl)

is_no_hop : ¬ IsOfKind (hop Two) (codes "10")
is_no_hop (Via a, fits, same) =
    no_address_without_a_dot (codes "10") a.0 refl (subst (λ text. IsAddressText text a.0) (sym same) (address_text_is_address a.0 fits))
is_no_hop (Discard, has, same) = cc

-- IsFaultOf
a_length_of_50_is_E4 : IsFaultOf prefix (codes "192.0.2.1/50") fault.PrefixLength
a_length_of_50_is_E4 = (reason.Length, (3221225985, 50, of_a_length_over_32, omega arith), refl)

a_bit_past_the_length_is_E5 : IsFaultOf prefix (codes "192.0.2.1/10") fault.PrefixBits
a_bit_past_the_length_is_E5 = (reason.Bits, (3221225985, 10, of_an_address_with_a_bit, omega arith, a_bit_is_set), refl)

no_pair_is_E3 : IsFaultOf prefix (codes "10/33") fault.Text
no_pair_is_E3 = (reason.Text, of_no_pair_without_a_dot, refl)

a_preference_is_E6 : IsFaultOf preference (codes "x") fault.Preference
a_preference_is_E6 = refl

an_address_is_E3 : IsFaultOf address (codes "10") fault.Text
an_address_is_E3 = refl

an_address_is_not_E7 : ¬ IsFaultOf address (codes "10") fault.Hop
an_address_is_not_E7 h = cc

-- IsFirstFault
the_first_from_the_left : IsFirstFault (prefix ∷ preference ∷ []) (codes "192.0.2.1/50" ∷ codes "4294967296" ∷ []) fault.PrefixLength
the_first_from_the_left = inl (no_prefix_50, a_length_of_50_is_E4)

the_second_where_the_first_is_right : IsFirstFault (prefix ∷ preference ∷ []) (codes "10.0.0.0/8" ∷ codes "4294967296" ∷ []) fault.Preference
the_second_where_the_first_is_right = inr (is_10, inl (preference_too_large, refl))

not_the_second_before_the_first : ¬ IsFirstFault (prefix ∷ preference ∷ []) (codes "192.0.2.1/50" ∷ codes "4294967296" ∷ []) fault.Preference
not_the_second_before_the_first (inl (is_none, (reason.Text, reads, same))) = cc
not_the_second_before_the_first (inl (is_none, (reason.Length, reads, same))) = cc
not_the_second_before_the_first (inl (is_none, (reason.Bits, reads, same))) = cc
not_the_second_before_the_first (inr second) = no_prefix_50 second.0

none_where_a_list_is_at_its_end : (answer : LineFault) → (¬ IsFirstFault [] [] answer) × (¬ IsFirstFault (preference ∷ []) [] answer)
none_where_a_list_is_at_its_end answer = (λ h. h, λ h. h)

-- IsFaultAfter
a_field_too_few : IsFaultAfter (Some (prefix ∷ [])) [] fault.FieldCount
a_field_too_few = inl ((λ same. omega (arith, same)), refl)

one_too_many_before_the_first : ¬ IsFaultAfter (Some (address ∷ [])) (codes "10" ∷ codes "x" ∷ []) fault.Text
one_too_many_before_the_first (inl many) = let same = many.1 in cc
one_too_many_before_the_first (inr as_many) = let same : 2 ≡ 1 = as_many.0 in omega (arith, same)

no_command : IsFaultAfter None [] fault.Command
no_command = refl

-- IsFaultOfFields
a_withdrawal_of_nothing : IsFaultOfFields One (codes "withdraw" ∷ []) fault.FieldCount
a_withdrawal_of_nothing = a_field_too_few

no_fault_of_no_field : (version : Version) (answer : LineFault) → ¬ IsFaultOfFields version [] answer
no_fault_of_no_field version answer h = h

-- AnswersLine
an_add : AnswersLine One (codes "add 10.0.0.0/8 100 192.0.2.1") (Ok (Some add_10))
an_add = ((refl, omega arith, omega arith), sym the_text_of_an_add)

a_purge : AnswersLine Two (codes "purge") (Ok (Some Purge))
a_purge = (refl, refl)

an_empty_line : AnswersLine One [] (Ok None)
an_empty_line = (omega arith, refl)

an_unknown_command_is_E1_before_E2 : AnswersLine One (codes "frob 1 2 3 4 5") (Err fault.Command)
an_unknown_command_is_E1_before_E2 = inr (omega arith, refl, refl)

a_purge_is_E1_in_version_1 : AnswersLine One (codes "purge") (Err fault.Command)
a_purge_is_E1_in_version_1 = inr (omega arith, refl, refl)

two_spaces_are_E2_before_E3 : AnswersLine One (codes "withdraw  10") (Err fault.FieldCount)
two_spaces_are_E2_before_E3 = inr (omega arith, refl, inl ((λ e. cc), refl))

no_prefix_is_E3_before_E4 : AnswersLine One (codes "withdraw 10/33") (Err fault.Text)
no_prefix_is_E3_before_E4 =
    inr (omega arith, refl, inr (refl, inl (no_prefix_33_by_1, no_pair_is_E3)))

no_address_is_E3 : AnswersLine One (codes "lookup 10") (Err fault.Text)
no_address_is_E3 = inr (omega arith, refl, inr (refl, inl (no_address_10, refl)))

a_length_of_50_is_E4_before_E5 : AnswersLine One (codes "withdraw 192.0.2.1/50") (Err fault.PrefixLength)
a_length_of_50_is_E4_before_E5 = inr (omega arith, refl, inr (refl, inl (no_prefix_50, a_length_of_50_is_E4)))

a_bit_too_many_is_E5_before_E6 : AnswersLine One (codes "add 192.0.2.1/10 4294967296 discard") (Err fault.PrefixBits)
a_bit_too_many_is_E5_before_E6 = inr (omega arith, refl, inr (refl, inl (no_prefix_with_a_bit, a_bit_past_the_length_is_E5)))

a_preference_too_large_is_E6_before_E7 : AnswersLine One (codes "add 10.0.0.0/8 4294967296 discard") (Err fault.Preference)
a_preference_too_large_is_E6_before_E7 = inr (omega arith, refl, inr (refl, inr (is_10, inl (preference_too_large, refl))))

a_discard_is_E7_in_version_1 : AnswersLine One (codes "add 10.0.0.0/8 100 discard") (Err fault.Hop)
a_discard_is_E7_in_version_1 = inr (omega arith, refl, inr (refl, inr (is_10, inr (is_100, inl (discard_is_no_hop_in_version_1, refl)))))

a_discard_is_a_hop_in_version_2 : AnswersLine Two (codes "add 10.0.0.0/8 100 discard") (Ok (Some (Add ten_8 100 Discard)))
a_discard_is_a_hop_in_version_2 = ((refl, omega arith, refl), sym the_text_of_a_discard)

no_hop_is_E7_in_version_2 : AnswersLine Two (codes "add 10.0.0.0/8 100 10") (Err fault.Hop)
no_hop_is_E7_in_version_2 = inr (omega arith, refl, inr (refl, inr (is_10, inr (is_100, inl (is_no_hop, refl)))))

a_comment_of_128_bytes : AnswersLine One
    (codes "################################################################################################################################") (Ok None)
a_comment_of_128_bytes = (omega arith, refl)

one_byte_more_is_E8_whatever_it_says : AnswersLine One
    (codes "#################################################################################################################################")
    (Err fault.LineLength)
one_byte_more_is_E8_whatever_it_says = inl (omega arith, refl)

-- AnswersAddressLine
an_address_alone : AnswersAddressLine (codes "192.0.2.1") (Ok (Some at_192_0_2_1))
unfolding digits address_text
an_address_alone = (omega arith, refl)

a_comment_names_no_address : AnswersAddressLine (codes "# 192.0.2.1") (Ok None)
a_comment_names_no_address = (omega arith, refl)

what_is_no_address_is_E3 : AnswersAddressLine (codes "10") (Err fault.Text)
what_is_no_address_is_E3 = inr (omega arith, refl, no_address_10, refl)

a_comment_of_129_bytes_is_E8 : AnswersAddressLine
    (codes "#################################################################################################################################")
    (Err fault.LineLength)
a_comment_of_129_bytes_is_E8 = inl (omega arith, refl)

-- a text without LF may be a line
unbroken : (text : List ℕ) → list_any (λ byte. eqb byte lf) text ≡ false → All (λ byte. byte ≢ lf) text
unbroken [] none = All-nil (λ byte. byte ≢ lf)
unbroken (byte ∷ text) none =
    let parts = or_parts (eqb byte lf) (list_any (λ byte. eqb byte lf) text) none in
    All-cons (λ byte. byte ≢ lf) byte text (eqb-false byte lf parts.0) (unbroken text parts.1)

-- the empty text has no LF
no_end : (line rest : List ℕ) → [] ≢ line ++ lf ∷ rest
no_end [] rest h = cc
no_end (byte ∷ line) rest h = cc

-- CutsLine
a_line_ends_at_its_LF : CutsLine (codes "a\nb\n") (codes "a") (codes "b\n")
a_line_ends_at_its_LF = record { unbroken = unbroken (codes "a") refl; ended = inl refl }

the_last_line_may_go_without : CutsLine (codes "a") (codes "a") []
the_last_line_may_go_without = record { unbroken = unbroken (codes "a") refl; ended = inr (refl, (λ e. cc), refl) }

nothing_has_no_line : (line rest : List ℕ) → ¬ CutsLine [] line rest
nothing_has_no_line line rest h = elim h.ended [
  | inl ended ↦ no_end line rest ended
  | inr whole ↦ whole.1 (sym whole.0)
]

-- HasVersion2Header
the_first_line_and_no_more : HasVersion2Header (codes "version 2\npurge") (codes "purge")
the_first_line_and_no_more = record { unbroken = unbroken (codes "version 2") refl; ended = inl refl }

a_text_of_that_line_alone : HasVersion2Header (codes "version 2") []
a_text_of_that_line_alone = record { unbroken = unbroken (codes "version 2") refl; ended = inr (refl, (λ e. cc), refl) }

not_with_a_space_behind : (rest : List ℕ) → ¬ HasVersion2Header (codes "version 2 \npurge") rest
not_with_a_space_behind rest h = elim h.ended [
  | inl ended ↦ let tenth : 32 ≡ 10 = ap (λ text. slice_index text 9) ended in omega (arith, tenth)
  | inr whole ↦ let tenth : 32 ≡ 0 = ap (λ text. slice_index text 9) whole.0 in omega (arith, tenth)
]

-- IsBody
version_2_is_told_by_the_first_line : IsBody (codes "version 2\npurge") Two (codes "purge")
version_2_is_told_by_the_first_line = record { unbroken = unbroken (codes "version 2") refl; ended = inl refl }

version_1_has_all_lines : IsBody (codes "purge") One (codes "purge")
version_1_has_all_lines = (
  λ rest h. elim h.ended [
    | inl ended ↦ let first : 112 ≡ 118 = ap (λ text. slice_index text 0) ended in omega (arith, first)
    | inr whole ↦ let first : 112 ≡ 118 = ap (λ text. slice_index text 0) whole.0 in omega (arith, first)
  ],
  refl,
)

-- reading
what_a_line_asks_whatever_became_of_it :
    map reading (skipped ∷ faulty fault.Command ∷ asked Dump outcome.Refused ∷ []) ≡ Ok None ∷ Err fault.Command ∷ Ok (Some Dump) ∷ []
what_a_line_asks_whatever_became_of_it = refl

-- heading
the_line_that_tells_version_2_is_skipped : heading Two ≡ skipped ∷ []
the_line_that_tells_version_2_is_skipped = refl

no_line_tells_version_1 : heading One ≡ []
no_line_tells_version_1 = refl

-- command_answer
done_or_refused : map command_answer (outcome.Did Added ∷ outcome.Refused ∷ []) ≡ answer.Did Added ∷ answer.Refused ∷ []
done_or_refused = refl

-- line_answer
a_comment_alone_has_none :
    map line_answer (skipped ∷ faulty fault.Hop ∷ asked Dump (outcome.Did (Dumped 0)) ∷ asked Dump outcome.Refused ∷ [])
    ≡ None ∷ Some (answer.Fault fault.Hop) ∷ Some (answer.Did (Dumped 0)) ∷ Some answer.Refused ∷ []
a_comment_alone_has_none = refl

-- numbered
with_its_number : numbered 7 (Some answer.Refused) ≡ record { number = 7; answer = answer.Refused } ∷ []
with_its_number = refl

no_line_without_an_answer : numbered 7 None ≡ []
no_line_without_an_answer = refl

-- report_lines
each_line_has_its_number :
    report_lines 1 (skipped ∷ faulty fault.Command ∷ asked Dump (outcome.Did (Dumped 0)) ∷ asked Purge outcome.Refused ∷ [])
    ≡ record { number = 2; answer = answer.Fault fault.Command } ∷ record { number = 3; answer = answer.Did (Dumped 0) }
    ∷ record { number = 4; answer = answer.Refused } ∷ []
each_line_has_its_number = refl

-- command_of
a_refused_command_was_asked : command_of (asked Dump outcome.Refused) ≡ (Dump, outcome.Refused) ∷ []
a_refused_command_was_asked = refl

a_faulty_line_asked_nothing : command_of (faulty fault.Hop) ≡ []
a_faulty_line_asked_nothing = refl

-- commands_of
the_commands_alone : commands_of (skipped ∷ faulty fault.Command ∷ asked Dump (outcome.Did (Dumped 0)) ∷ []) ≡ (Dump, outcome.Did (Dumped 0)) ∷ []
the_commands_alone = refl

-- is_refusal
a_refused_command : is_refusal answer.Refused ≡ true
a_refused_command = refl

a_reply_is_no_refusal : is_refusal (answer.Did Added) ≡ false
a_reply_is_no_refusal = refl

a_faulty_line_is_no_refusal : is_refusal (answer.Fault fault.Hop) ≡ false
a_faulty_line_is_no_refusal = refl

-- is_fault
a_faulty_line : is_fault (answer.Fault fault.Hop) ≡ true
a_faulty_line = refl

a_reply_is_no_fault : is_fault (answer.Did Full) ≡ false
a_reply_is_no_fault = refl

a_refused_command_is_no_fault : is_fault answer.Refused ≡ false
a_refused_command_is_no_fault = refl

-- a piece before another one is whole
first_is_whole : {X : Type 0} (size : ℕ) (piece other : List X) (more whole : List (List X)) (last : List X)
    → All (λ piece. length piece ≡ size) whole → piece ∷ other ∷ more ≡ whole ++ piece_of last → length piece ≡ size
first_is_whole size piece other more [] [] full same = cc
first_is_whole size piece other more [] (x ∷ xs) full same = cc
first_is_whole size piece other more (one ∷ whole) last full same = let first : piece ≡ one = cc in ap length first ∙ full 0 one (omega arith)

-- concatenated
one_after_another : concatenated {X = ℕ} ((1 ∷ 2 ∷ []) ∷ [] ∷ (3 ∷ []) ∷ []) ≡ 1 ∷ 2 ∷ 3 ∷ []
one_after_another = refl

-- piece_of
a_piece_by_itself : piece_of {X = ℕ} (3 ∷ []) ≡ (3 ∷ []) ∷ []
a_piece_by_itself = refl

no_piece_that_is_empty : piece_of {X = ℕ} [] ≡ []
no_piece_that_is_empty = refl

-- IsSplitInto
three_in_pieces_of_two : IsSplitInto {X = ℕ} 2 (1 ∷ 2 ∷ 3 ∷ []) ((1 ∷ 2 ∷ []) ∷ (3 ∷ []) ∷ [])
three_in_pieces_of_two = record {
  whole = (1 ∷ 2 ∷ []) ∷ [];
  last = 3 ∷ [];
  full = All-cons (λ piece. length piece ≡ 2) (1 ∷ 2 ∷ []) [] refl (All-nil (λ piece. length piece ≡ 2));
  fewer = omega arith;
  is_joined = refl;
  is_cut = refl;
}

two_in_one_piece_of_two : IsSplitInto {X = ℕ} 2 (1 ∷ 2 ∷ []) ((1 ∷ 2 ∷ []) ∷ [])
two_in_one_piece_of_two = record {
  whole = (1 ∷ 2 ∷ []) ∷ [];
  last = [];
  full = All-cons (λ piece. length piece ≡ 2) (1 ∷ 2 ∷ []) [] refl (All-nil (λ piece. length piece ≡ 2));
  fewer = omega arith;
  is_joined = refl;
  is_cut = refl;
}

not_a_short_piece_before_another : ¬ IsSplitInto {X = ℕ} 2 (1 ∷ 2 ∷ 3 ∷ []) ((1 ∷ []) ∷ (2 ∷ 3 ∷ []) ∷ [])
not_a_short_piece_before_another h = let two = first_is_whole 2 (1 ∷ []) (2 ∷ 3 ∷ []) [] h.whole h.last h.full h.is_cut in cc

-- reply_text
replies_of_one_word : map reply_text (Added ∷ Exists ∷ Full ∷ Replaced ∷ Withdrawn ∷ Missing ∷ [])
    ≡ codes "added" ∷ codes "exists" ∷ codes "full" ∷ codes "replaced" ∷ codes "withdrawn" ∷ codes "missing" ∷ []
unfolding reply_text
replies_of_one_word = refl

nothing_found : reply_text NoRoute ≡ codes "no route"
unfolding reply_text
nothing_found = refl

counts_in_decimal : map reply_text (Dumped 100 ∷ Purged 0 ∷ []) ≡ codes "dumped 100" ∷ codes "purged 0" ∷ []
unfolding digits reply_text
counts_in_decimal = refl

a_found_route : reply_text (Found (route_via ten_1_16 1 10 (via_192_0_2 1))) ≡ codes "route 10.1.0.0/16 feed 1 pref 10 via 192.0.2.1"
unfolding digits address_text prefix_text reply_text route_text
a_found_route = refl

-- fault_text
E1_to_E8 :
    map fault_text (fault.Command ∷ fault.FieldCount ∷ fault.Text ∷ fault.PrefixLength ∷ fault.PrefixBits ∷ fault.Preference ∷ fault.Hop ∷ fault.LineLength
    ∷ [])
    ≡ codes "fault E1" ∷ codes "fault E2" ∷ codes "fault E3" ∷ codes "fault E4" ∷ codes "fault E5" ∷ codes "fault E6" ∷ codes "fault E7" ∷ codes "fault E8" ∷ []
unfolding fault_text
E1_to_E8 = refl

-- answer_text
a_reply_a_refusal_and_a_fault : map answer_text (answer.Did Added ∷ answer.Refused ∷ answer.Fault fault.Text ∷ [])
    ≡ codes "added" ∷ codes "refused" ∷ codes "fault E3" ∷ []
unfolding answer_text reply_text fault_text
a_reply_a_refusal_and_a_fault = refl

-- line_text
a_line_of_a_report : line_text 1 (record { number = 100; answer = answer.Did Added }) ≡ codes "1:100 added\n"
unfolding digits line_text answer_text reply_text
a_line_of_a_report = refl

-- report_text
two_lines_of_feed_1 :
    report_text 1 (record { number = 2; answer = answer.Did Added } ∷ record { number = 5; answer = answer.Fault fault.Hop } ∷ [])
    ≡ codes "1:2 added\n1:5 fault E7\n"
unfolding digits line_text answer_text reply_text fault_text
two_lines_of_feed_1 = refl

-- the outcome of a line whose command was answered
abbrev did : Cmd → Reply → LineOutcome
did cmd reply = asked cmd (outcome.Did reply)

-- the three files of the tutorial, and the outcomes of their lines
abbrev pub north : List ℕ
north =
    codes "# Has a way to all of 10.0.0.0/8, and a better one to a part of it.\n"
    ++ codes "add 10.0.0.0/8 50 192.0.2.1\nadd 10.1.0.0/16 10 192.0.2.1\nlookup 10.1.2.3\n"

abbrev pub north_read : List LineOutcome
north_read = skipped ∷ did (Add ten_8 50 (via_192_0_2 1)) Added ∷ did (Add ten_1_16 10 (via_192_0_2 1)) Added
    ∷ did (Lookup at_10_1_2_3) (Found (route_via ten_1_16 1 10 (via_192_0_2 1))) ∷ []

abbrev pub south_lines : List ℕ
south_lines =
    codes "# Loses its neighbour, takes back all that it said, and comes up again with one way.\n"
    ++ codes "add 10.0.0.0/8 20 192.0.2.2\nadd 10.2.0.0/16 20 192.0.2.2\npurge\nadd 10.0.0.0/8 30 192.0.2.2\n"

abbrev pub south : List ℕ
south = codes "version 2\n" ++ south_lines

abbrev pub south_read : List LineOutcome
south_read = skipped ∷ did (Add ten_8 20 (via_192_0_2 2)) Added ∷ did (Add ten_2_16 20 (via_192_0_2 2)) Added ∷ did Purge (Purged 2)
    ∷ did (Add ten_8 30 (via_192_0_2 2)) Added ∷ []

abbrev pub east_lines : List ℕ
east_lines =
    codes "# Discards what nobody is to reach, and takes back one way.\n"
    ++ codes "add 10.9.0.0/16 10 discard\nadd 10.3.0.0/16 10 192.0.2.3\nwithdraw 10.3.0.0/16\nlookup 10.9.0.1\n"

abbrev pub east : List ℕ
east = codes "version 2\n" ++ east_lines

abbrev pub east_read : List LineOutcome
east_read = skipped ∷ did (Add ten_9_16 10 Discard) Added ∷ did (Add ten_3_16 10 (via_192_0_2 3)) Added ∷ did (Withdraw ten_3_16) Withdrawn
    ∷ did (Lookup at_10_9_0_1) (Found (route_via ten_9_16 3 10 Discard)) ∷ []

-- a line is split off at the LF that ends it
cut : (line rest : List ℕ) → list_any (λ byte. eqb byte lf) line ≡ false → CutsLine (line ++ lf ∷ rest) line rest
cut line rest none = record { unbroken = unbroken line none; ended = inl refl }

-- each of these lines is read as its outcome says; and the text of the lines, with an LF after each
abbrev AreRead : Version → List (List ℕ) → List LineOutcome → Type 0
AreRead version [] outcomes = outcomes ≡ []
AreRead version (line ∷ lines) [] = ⊥
AreRead version (line ∷ lines) (outcome ∷ outcomes) = AnswersLine version line (reading outcome) × AreRead version lines outcomes

abbrev text_of : List (List ℕ) → List ℕ
text_of [] = []
text_of (line ∷ lines) = line ++ lf ∷ text_of lines

become : (version : Version) (lines : List (List ℕ)) (outcomes : List LineOutcome) → list_any (λ line. list_any (λ byte. eqb byte lf) line) lines ≡ false
    → AreRead version lines outcomes → LinesYield version (text_of lines) outcomes []
become version [] [] none are = refl
become version [] (outcome ∷ outcomes) none are = absurd cc
become version (line ∷ lines) [] none are = absurd are
become version (line ∷ lines) (outcome ∷ outcomes) none (answers, are) =
    let parts = or_parts (list_any (λ byte. eqb byte lf) line) (list_any (λ line. list_any (λ byte. eqb byte lf) line) lines) none in
    (line, text_of lines, cut line (text_of lines) parts.0, answers, become version lines outcomes parts.1 are)

-- LinesYield
lines_of_north : LinesYield One north north_read []
unfolding digits address_text prefix_text
lines_of_north = become One (codes "# Has a way to all of 10.0.0.0/8, and a better one to a part of it." ∷ codes "add 10.0.0.0/8 50 192.0.2.1"
    ∷ codes "add 10.1.0.0/16 10 192.0.2.1" ∷ codes "lookup 10.1.2.3" ∷ [])
    north_read refl ((omega arith, refl), (((refl, omega arith, omega arith), refl), (((refl, omega arith, omega arith), refl), (((refl, omega arith), refl), refl))))

lines_of_south : LinesYield Two south_lines south_read []
unfolding digits address_text prefix_text
lines_of_south = become Two (codes "# Loses its neighbour, takes back all that it said, and comes up again with one way." ∷ codes "add 10.0.0.0/8 20 192.0.2.2"
    ∷ codes "add 10.2.0.0/16 20 192.0.2.2" ∷ codes "purge" ∷ codes "add 10.0.0.0/8 30 192.0.2.2" ∷ [])
    south_read refl (
      (omega arith, refl),
      (
        ((refl, omega arith, omega arith), refl),
        (
          ((refl, omega arith, omega arith), refl),
          (
            (refl, refl),
            (((refl, omega arith, omega arith), refl), refl),
          ),
        ),
      ),
    )

lines_of_east : LinesYield Two east_lines east_read []
unfolding digits address_text prefix_text
lines_of_east = become Two (codes "# Discards what nobody is to reach, and takes back one way." ∷ codes "add 10.9.0.0/16 10 discard"
    ∷ codes "add 10.3.0.0/16 10 192.0.2.3" ∷ codes "withdraw 10.3.0.0/16" ∷ codes "lookup 10.9.0.1" ∷ [])
    east_read refl ((omega arith, refl), (((refl, omega arith, refl), refl), (((refl, omega arith, omega arith), refl), ((refl, refl), (((refl, omega arith), refl), refl)))))

no_line_left_out : ¬ LinesYield One (codes "dump\n") [] []
no_line_left_out same = cc

-- north's first byte isn't that of `version 2`
north_tells_no_version : (rest : List ℕ) → ¬ HasVersion2Header north rest
north_tells_no_version rest h = elim h.ended [
  | inl ended ↦ let first : 35 ≡ 118 = ap (λ text. slice_index text 0) ended in omega (arith, first)
  | inr whole ↦ let first : 35 ≡ 118 = ap (λ text. slice_index text 0) whole.0 in omega (arith, first)
]

-- TextYields
pub what_north_becomes : TextYields north north_read []
what_north_becomes = record { version = One; lines = north; read = north_read; body = (north_tells_no_version, refl); become = lines_of_north; joined = refl }

pub what_south_becomes : TextYields south (skipped ∷ south_read) []
what_south_becomes = record
    { version = Two; lines = south_lines; read = south_read; body = cut (codes "version 2") south_lines refl; become = lines_of_south; joined = refl }

pub what_east_becomes : TextYields east (skipped ∷ east_read) []
what_east_becomes = record
    { version = Two; lines = east_lines; read = east_read; body = cut (codes "version 2") east_lines refl; become = lines_of_east; joined = refl }

-- a text of addresses, whose last line has no LF
abbrev pub asked_text : List ℕ
asked_text = codes "# Two are asked.\n192.0.2.1\n10\n\n10.1.2.3"

abbrev pub asked_read : List (Result (Option Addr) LineFault)
asked_read = Ok None ∷ Ok (Some at_192_0_2_1) ∷ Err fault.Text ∷ Ok None ∷ Ok (Some at_10_1_2_3) ∷ []

-- LinesParseAs
what_its_lines_say : LinesParseAs AnswersAddressLine asked_text asked_read []
unfolding digits address_text
what_its_lines_say =
    let last : CutsLine (codes "10.1.2.3") (codes "10.1.2.3") [] =
    record { unbroken = unbroken (codes "10.1.2.3") refl; ended = inr (refl, (λ e. cc), refl) } in (
      codes "# Two are asked.",
      codes "192.0.2.1\n10\n\n10.1.2.3",
      cut (codes "# Two are asked.") (codes "192.0.2.1\n10\n\n10.1.2.3") refl,
      (omega arith, refl),
      (
        codes "192.0.2.1",
        codes "10\n\n10.1.2.3",
        cut (codes "192.0.2.1") (codes "10\n\n10.1.2.3") refl,
        (omega arith, refl),
        (
          codes "10",
          codes "\n10.1.2.3",
          cut (codes "10") (codes "\n10.1.2.3") refl,
          what_is_no_address_is_E3,
          (
            [],
            codes "10.1.2.3",
            cut [] (codes "10.1.2.3") refl,
            (omega arith, refl),
            (codes "10.1.2.3", [], last, (omega arith, refl), refl),
          ),
        ),
      ),
    )

-- the rows of this text
abbrev pub asked_rows : List AddressRow
asked_rows = address_row at_192_0_2_1 ∷ invalid_row 3 ∷ address_row at_10_1_2_3 ∷ []

-- rows_said
a_row_for_each_line_that_is_not_skipped : rows_said 1 asked_read ≡ asked_rows
a_row_for_each_line_that_is_not_skipped = refl

-- addresses_in
those_that_are_addresses : addresses_in asked_rows ≡ at_192_0_2_1 ∷ at_10_1_2_3 ∷ []
those_that_are_addresses = refl

-- invalid_in
the_invalid_one_after_one_address_and_after_two :
    (invalid_in 0 asked_rows ≡ record { number = 3; before = 1 } ∷ []) × (invalid_in 1 asked_rows ≡ record { number = 3; before = 2 } ∷ [])
the_invalid_one_after_one_address_and_after_two = (refl, refl)

-- faults_said
the_third_line_is_faulty : faults_said 1 asked_read ≡ (3, fault.Text) ∷ []
the_third_line_is_faulty = refl

-- faulty_lines
how_many_and_the_first : faulty_lines ((3, fault.Text) ∷ (5, fault.LineLength) ∷ []) ≡ record { count = 2; first = Some (3, fault.Text) }
how_many_and_the_first = refl

-- SaysAddresses
pub two_are_asked_and_a_line_is_faulty : SaysAddresses asked_text asked_rows (record { count = 1; first = Some (3, fault.Text) })
two_are_asked_and_a_line_is_faulty = record { says = asked_read; lines = what_its_lines_say; said = refl; faults = refl }

-- AreOfRows
the_invalid_line_in_its_place : AreOfRows true asked_rows (at_192_0_2_1 ∷ at_10_1_2_3 ∷ []) (record { number = 3; before = 1 } ∷ [])
the_invalid_line_in_its_place = record { addressed = refl; kept = refl }

no_invalid_line_unless_they_are_kept :
    AreOfRows false asked_rows (at_192_0_2_1 ∷ at_10_1_2_3 ∷ []) [] × (¬ AreOfRows true asked_rows (at_192_0_2_1 ∷ at_10_1_2_3 ∷ []) [])
no_invalid_line_unless_they_are_kept = (record { addressed = refl; kept = refl }, (λ h. let none = h.kept in cc))

-- ReadsAddresses
the_named_ones_come_first :
    (read : AddressText) → read.addresses.items ≡ at_10_1_2_3 ∷ at_192_0_2_1 ∷ at_10_1_2_3 ∷ [] → read.invalid.items ≡ record { number = 3; before = 2 } ∷ []
    → read.faulty ≡ record { count = 1; first = Some (3, fault.Text) } → ReadsAddresses (at_10_1_2_3 ∷ []) asked_text true read
the_named_ones_come_first read addresses invalid faults = record {
  said = asked_rows;
  says = rw faults two_are_asked_and_a_line_is_faulty;
  of_rows = record { addressed = addresses; kept = invalid };
}

-- has_refusal
in_one_of_two_lines :
    (has_refusal (record { number = 1; answer = answer.Did Added } ∷ record { number = 2; answer = answer.Refused } ∷ []) ≡ true)
    × (has_refusal (record { number = 1; answer = answer.Fault fault.Hop } ∷ []) ≡ false)
in_one_of_two_lines = (refl, refl)

-- has_fault
in_the_second_of_two :
    (has_fault (record { number = 1; answer = answer.Did Added } ∷ record { number = 2; answer = answer.Fault fault.Hop } ∷ []) ≡ true)
    × (has_fault (record { number = 1; answer = answer.Refused } ∷ []) ≡ false)
in_the_second_of_two = (refl, refl)

-- a gate that holds any visits at all says nothing about its answers
not_any_visits : ¬ AreOneList (λ visits. Unit {0})
not_any_visits h = let none_is_one = h [] (((Dump, Dumped 0) ∷ []) ∷ []) tt tt in cc
