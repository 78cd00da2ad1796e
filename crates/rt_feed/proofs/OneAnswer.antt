-- A line has one answer: a command has one text, and a text has one first fault. So has a line of a text of addresses.
use Rattle.std.proofs.Common.{◌≡◌, ℕ, ◌^◌, ◌<◌, inl, inr, List, [], ◌∷◌, length, slice_index_or, codes, Option, Some, None, Ok, Err, subst, refl, sym, ap, ◌∙◌, arith}
use Rattle.std.proofs.lemmas.Fmt.{decimal_injective}
use Rattle.rt_cidr.specs.declared.address.Addr.{Addr}
use Rattle.rt_cidr.specs.declared.prefixes.Prefix.{Prefix}
use Rattle.rt_cidr.specs.Reading.{ReadsAddress, ReadsPrefix}
use Rattle.rt_cidr.specs.Text.{IsAddressText, IsPrefixText, address_text, prefix_text}
use Rattle.rt_cidr.proofs.Promised.{length-address_text}
use Rattle.rt_cidr.specs.Laws.{HasOneAnswer, WritesPrefix, WritesAddress, ReadsPrefixAgain, ReadsAddressAgain}
use Rattle.rt_rib.specs.declared.routes.Hop.{Hop}
use Rattle.rt_rib.specs.declared.routes.Hop.TheVariants.{Via, Discard}
use Rattle.rt_rib.specs.declared.commands.Cmd.{Cmd}
use Rattle.rt_rib.specs.declared.commands.Cmd.TheVariants.{Add, Replace, Withdraw, Lookup, Dump, Purge}
use Rattle.rt_feed.specs.declared.parse.LineFault.{LineFault}
use Rattle.rt_feed.specs.declared.versions.Version.{Version}
use Rattle.rt_feed.specs.CommandText.{words, route_words, HasHop, HasCommand}
use Rattle.rt_print.specs.Routes.{hop_text}
use Rattle.rt_feed.specs.Commands.{Kind, prefix, address}
use Rattle.rt_feed.specs.Grammar.{IsOfKind, IsFaultOf, IsFirstFault, IsFaultAfter, IsFaultOfFields, prefix_fault, kinds_after, fields}
use Rattle.rt_feed.specs.Grammar.{AnswersLine}
use Rattle.rt_feed.specs.Addresses.{AnswersAddressLine}
use Rattle.rt_feed.specs.Laws.{LineHasOneAnswer, AddressLineHasOneAnswer}
use Rattle.rt_feed.proofs.CommandWords.{address-ne-discard, fields-command_text, length-command_text, not_skipped-command_text, not_skipped-address_text}

-- the promises of rt_cidr on prefixes and addresses and their texts
pub record Texts : Type 0 where
  pub prefix_once : HasOneAnswer ReadsPrefix
  pub prefix_written : WritesPrefix
  pub prefix_again : ReadsPrefixAgain
  pub address_written : WritesAddress
  pub address_again : ReadsAddressAgain

pub texts : HasOneAnswer ReadsPrefix → WritesPrefix → ReadsPrefixAgain → WritesAddress → ReadsAddressAgain → Texts
texts prefix_once prefix_written prefix_again address_written address_again = record {
  prefix_once = prefix_once;
  prefix_written = prefix_written;
  prefix_again = prefix_again;
  address_written = address_written;
  address_again = address_again;
}

-- two prefixes with the same text are equal, and so are two addresses
one_prefix : Texts → (p q : Prefix) → prefix_text p.base p.len ≡ prefix_text q.base q.len → p ≡ q
one_prefix texts p q same =
    let read : ReadsPrefix (prefix_text q.base q.len) (Ok p) = subst (λ text. IsPrefixText text p.base p.len) same (texts.prefix_written p) in
    let equal = texts.prefix_again q (Ok p) read in cc

one_address : Texts → (a b : Addr) → a.0 < 2 ^ 32 → b.0 < 2 ^ 32 → address_text a.0 ≡ address_text b.0 → a ≡ b
one_address texts a b fits others same =
    let read : ReadsAddress (address_text b.0) (Ok a) = subst (λ text. IsAddressText text a.0) same (texts.address_written a.0 fits) in
    let equal = texts.address_again b (Ok a) others read in cc

one_hop : Texts → (version : Version) (one two : Hop) → HasHop version one → HasHop version two → hop_text one ≡ hop_text two → one ≡ two
one_hop texts version (Via a) (Via b) fits others same = ap Via (one_address texts a b fits others same)
one_hop texts version (Via a) Discard fits others same = absurd (address-ne-discard a.0 fits same)
one_hop texts version Discard (Via b) fits others same = absurd (address-ne-discard b.0 others (sym same))
one_hop texts version Discard Discard fits others same = refl

-- two commands with the same words are equal
one_command : Texts → (version : Version) (cmd other : Cmd) → HasCommand version cmd → HasCommand version other → words cmd ≡ words other → cmd ≡ other
one_command texts version (Add p pref next) (Add q pref' next') fits fits' same =
    grind (arith, one_prefix texts p q, decimal_injective pref pref', one_hop texts version next next')
one_command texts version (Replace p pref next) (Replace q pref' next') fits fits' same =
    grind (arith, one_prefix texts p q, decimal_injective pref pref', one_hop texts version next next')
one_command texts version (Withdraw p) (Withdraw q) fits fits' same = let equal = one_prefix texts p q (cc) in cc
one_command texts version (Lookup a) (Lookup b) fits fits' same = let equal = one_address texts a b fits.1 fits'.1 (cc) in cc
one_command texts version Dump Dump fits fits' same = refl
one_command texts version Purge Purge fits fits' same = refl
one_command texts version cmd other fits fits' same = absurd (omega (arith, ap (λ ws. length (slice_index_or ws 0 [])) same))

-- a field has only one fault
one_fault : Texts → (kind : Kind) (field : List ℕ) (one two : LineFault) → IsFaultOf kind field one → IsFaultOf kind field two → one ≡ two
one_fault texts prefix field one two (reason, read, is) (other, again, also) =
    let equal = texts.prefix_once field (Err reason) (Err other) read again in
    let same : reason ≡ other = cc in is ∙ (ap prefix_fault same ∙ sym also)
one_fault texts kind field one two is other = is ∙ sym other

-- the first fault is unique
one_first : Texts → (kinds : List Kind) (rest : List (List ℕ)) (one two : LineFault) → IsFirstFault kinds rest one → IsFirstFault kinds rest two → one ≡ two
one_first texts (kind ∷ kinds) (field ∷ rest) one two is other = grind (arith, one_fault texts kind field one two, one_first texts kinds rest one two)
one_first texts kinds rest one two is other = absurd is

one_after : Texts → (kinds : Option (List Kind)) (rest : List (List ℕ)) (one two : LineFault) → IsFaultAfter kinds rest one → IsFaultAfter kinds rest two
    → one ≡ two
one_after texts None rest one two is other = is ∙ sym other
one_after texts (Some kinds) rest one two is other = grind (arith, one_first texts kinds rest one two)

one_of_fields : Texts → (version : Version) (line : List (List ℕ)) (one two : LineFault) → IsFaultOfFields version line one → IsFaultOfFields version line two
    → one ≡ two
one_of_fields texts version [] one two is other = absurd is
one_of_fields texts version (name ∷ rest) one two is other = one_after texts (kinds_after version name) rest one two is other

-- a route's words have no fault
sound-route : (version : Version) (p : Prefix) (pref : ℕ) (next : Hop) → pref < 2 ^ 32 → HasHop version next → (answer : LineFault)
    → ¬ IsFaultOfFields version (codes "add" ∷ route_words p pref next) answer
sound-route version p pref next fits has answer (inl (not, is)) = not refl
sound-route version p pref next fits has answer (inr (same, inl (none, is))) = none (p, refl)
sound-route version p pref next fits has answer (inr (same, inr (some, inl (none, is)))) = none (pref, fits, refl)
sound-route version p pref next fits has answer (inr (same, inr (some, inr (more, inl (none, is))))) = none (next, has, refl)
sound-route version p pref next fits has answer (inr (same, inr (some, inr (more, inr (last, is))))) = is

-- nor do a command's
sound-words : (version : Version) (cmd : Cmd) → HasCommand version cmd → (answer : LineFault) → ¬ IsFaultOfFields version (words cmd) answer
sound-words version (Add p pref a) fits answer is = sound-route version p pref a fits.1 fits.2 answer is
sound-words version (Replace p pref a) fits answer is = sound-route version p pref a fits.1 fits.2 answer is
sound-words version (Withdraw p) fits answer fault = let is : IsOfKind prefix (prefix_text p.base p.len) = (p, refl) in grind (arith, is)
sound-words version (Lookup a) fits answer fault = let is : IsOfKind address (address_text a.0) = (a, fits.1, refl) in grind (arith, is)
sound-words version cmd fits answer fault = grind arith

-- a command's text is neither skipped nor faulty
never_skipped : (version : Version) (line : List ℕ) (cmd : Cmd) → AnswersLine version line (Ok (Some cmd)) → ¬ AnswersLine version line (Ok None)
never_skipped version line cmd is skipped = let clash = sym (not_skipped-command_text cmd) ∙ (rw is.1 at skipped.1) in cc

never_faulty : (version : Version) (line : List ℕ) (cmd : Cmd) (answer : LineFault) → AnswersLine version line (Ok (Some cmd))
    → ¬ AnswersLine version line (Err answer)
never_faulty version line cmd answer is (inl (long, told)) = omega (arith, long, ap length is.1, length-command_text version cmd is.0)
never_faulty version line cmd answer is (inr (short, not, fault)) =
    let parts : fields line ≡ words cmd = ap fields is.1 ∙ fields-command_text version cmd is.0 in
    sound-words version cmd is.0 answer (rw parts at fault)

never_both : (version : Version) (line : List ℕ) (answer : LineFault) → AnswersLine version line (Ok None) → ¬ AnswersLine version line (Err answer)
never_both version line answer is fault = grind arith

ruleset apart = (never_skipped, never_faulty, never_both)

pub line_once : Texts → LineHasOneAnswer
line_once texts version line (Ok (Some cmd)) (Ok (Some other)) is also =
    let same = sym (fields-command_text version cmd is.0) ∙ (ap fields (sym is.1 ∙ also.1) ∙ fields-command_text version other also.0) in
    ap (λ c. Ok (Some c)) (one_command texts version cmd other is.0 also.0 same)
line_once texts version line (Ok None) (Ok None) is also = refl
line_once texts version line (Err fault) (Ok None) is also = absurd (never_both version line fault also is)
line_once texts version line (Err one) (Err two) is also = grind (arith, one_of_fields texts)
line_once texts version line one two is also = absurd (search apart)

-- an address's text is neither skipped nor faulty
address_never_skipped : (line : List ℕ) (addr : Addr) → AnswersAddressLine line (Ok (Some addr)) → ¬ AnswersAddressLine line (Ok None)
address_never_skipped line addr is skipped = let clash = sym (not_skipped-address_text addr.0 is.0) ∙ (rw is.1 at skipped.1) in cc

address_never_faulty : (line : List ℕ) (addr : Addr) (answer : LineFault) → AnswersAddressLine line (Ok (Some addr)) → ¬ AnswersAddressLine line (Err answer)
address_never_faulty line addr answer is fault = grind (arith, length-address_text)

-- a skipped line is not faulty
address_never_both : (line : List ℕ) (answer : LineFault) → AnswersAddressLine line (Ok None) → ¬ AnswersAddressLine line (Err answer)
address_never_both line answer is fault = grind arith

ruleset apart_addresses = (address_never_skipped, address_never_faulty, address_never_both)

pub address_line_once : Texts → AddressLineHasOneAnswer
address_line_once texts line (Ok (Some addr)) (Ok (Some other)) is also =
    ap (λ a. Ok (Some a)) (one_address texts addr other is.0 also.0 (sym is.1 ∙ also.1))
address_line_once texts line (Ok None) (Ok None) is also = refl
address_line_once texts line (Err fault) (Ok None) is also = absurd (address_never_both line fault also is)
address_line_once texts line (Err one) (Err two) is also = grind arith
address_line_once texts line one two is also = absurd (search apart_addresses)
