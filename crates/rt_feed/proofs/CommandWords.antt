-- The words of a command and the fields of its line.
use Rattle.std.proofs.Common.{◌≡◌, ◌≢◌, ℕ, ◌+◌, ◌^◌, ◌<◌, ◌≤◌, ◌/◌, ◌%◌, List, [], ◌∷◌, ◌++◌, All, None, false, decimal, codes, length}
use Rattle.std.proofs.Common.{length-append, sym, ap, ◌∙◌, slice_index_or, append_assoc, refl, arith}
use Rattle.std.specs.List.{join_with_byte}
use Rattle.std.proofs.lemmas.List.Splits.{join_with_byte-slice_split, slice_split_at, slice_split_none}
use Rattle.std.proofs.lemmas.List.Elements.{All-from_recursion, All-nil, All-cons, All-append}
use Rattle.std.proofs.lemmas.Bool.{ne_eqb}
use Rattle.std.proofs.Math.Bool.{and-false}
use Rattle.std.specs.Str.{bytes_eq}
use Rattle.std.proofs.lemmas.Fmt.{length-decimal-le, decimal_by_steps}
use Rattle.rt_cidr.specs.declared.prefixes.Prefix.{Prefix}
use Rattle.rt_cidr.specs.Text.{dot, slash, address_text, prefix_text}
use Rattle.rt_cidr.proofs.Promised.{length-address_text, length-prefix_text}
use Rattle.rt_rib.specs.declared.routes.Hop.{Hop}
use Rattle.rt_rib.specs.declared.routes.Hop.TheVariants.{Via, Discard}
use Rattle.rt_rib.specs.declared.commands.Cmd.{Cmd}
use Rattle.rt_rib.specs.declared.commands.Cmd.TheVariants.{Add, Replace, Withdraw, Lookup, Dump, Purge}
use Rattle.rt_feed.specs.declared.parse.TheConstants.{LINE_BYTES}
use Rattle.rt_feed.specs.declared.versions.Version.{Version}
use Rattle.rt_feed.specs.CommandText.{space, words, route_words, command_text, HasHop, HasCommand}
use Rattle.rt_print.specs.Routes.{hop_text}
use Rattle.rt_feed.specs.Grammar.{hash, fields, is_skipped, kinds_after}
use Rattle.rt_feed.proofs.CutBytes.{is_unmarked}
use Rattle.rt_print.proofs.Promised.{hop_fits}

-- a line whose fields are a command's words is the command's text
pub line_from_words : (line : List ℕ) (cmd : Cmd) → fields line ≡ words cmd → line ≡ command_text cmd
line_from_words line cmd is = sym (join_with_byte-slice_split space line) ∙ ap (join_with_byte space) is

-- a text differs from any longer text
shorter : (text longer : List ℕ) → length text < length longer → bytes_eq text longer ≡ false
shorter text [] short = absurd (omega (arith, short))
shorter [] (byte ∷ longer) short = refl
shorter (a ∷ text) (b ∷ longer) short = rw (shorter text longer (omega (arith, short)), and-false) refl

-- a text of fewer than three bytes is not a command's name
pub too_short : (version : Version) (name : List ℕ) → length name < 3 → kinds_after version name ≡ None
too_short version name short = grind (arith, shorter)

abbrev NotSpace : ℕ → Type 0
NotSpace byte = byte ≢ space

-- no byte is a space
abbrev NoSpace : List ℕ → Type 0
NoSpace text = All NotSpace text

-- no byte of these words is, and there is a word
abbrev NoSpaces : List (List ℕ) → Type 0
NoSpaces [] = ⊥
NoSpaces (word ∷ []) = NoSpace word
NoSpaces (word ∷ words) = NoSpace word × NoSpaces words

-- the fields of such words, joined by spaces, are the words
fields-joined : (words : List (List ℕ)) → NoSpaces words → fields (join_with_byte space words) ≡ words
fields-joined [] none = absurd none
fields-joined (word ∷ []) none = slice_split_none _ word (is_unmarked space word none)
fields-joined (word ∷ next ∷ more) none =
    slice_split_at _ word space (join_with_byte space (next ∷ more)) (is_unmarked space word none.0) refl
    ∙ ap (λ rest. word ∷ rest) (fields-joined (next ∷ more) none.1)

no_space-decimal : (n : ℕ) → n < 2 ^ 64 → NoSpace (decimal n)
no_space-decimal =
    decimal_by_steps (λ n digits. NoSpace digits)
    (λ n one. All-cons NotSpace (48 + n) [] (omega arith) (All-nil NotSpace))
    (λ n digits more none. All-append NotSpace digits ((48 + n % 10) ∷ []) none (All-cons NotSpace (48 + n % 10) [] (omega arith) (All-nil NotSpace)))

no_space-address : (address : ℕ) → address < 2 ^ 32 → NoSpace (address_text address)
unfolding address_text
no_space-address address small =
    let dotted : (octet : ℕ) (rest : List ℕ) → octet < 2 ^ 64 → NoSpace rest → NoSpace (decimal octet ++ dot ∷ rest) =
    λ octet rest fits more. All-append NotSpace (decimal octet) (dot ∷ rest) (no_space-decimal octet fits) (All-cons NotSpace dot rest (omega arith) more) in
    dotted (address / 2 ^ 24 % 256) _ (omega arith) (dotted (address / 2 ^ 16 % 256) _ (omega arith) (dotted (address / 2 ^ 8 % 256) _ (omega arith)
    (no_space-decimal (address % 256) (omega arith))))

no_space-prefix : (p : Prefix) → NoSpace (prefix_text p.base p.len)
unfolding prefix_text
no_space-prefix p =
    All-append NotSpace (address_text p.base) (slash ∷ decimal p.len) (no_space-address p.base p.is_prefix.fits)
    (All-cons NotSpace slash (decimal p.len) (omega arith) (no_space-decimal p.len (omega (arith, p.is_prefix.short))))

no_space-hop : (version : Version) (next : Hop) → HasHop version next → NoSpace (hop_text next)
no_space-hop version (Via address) fits = no_space-address address.0 fits
no_space-hop version Discard is = All-from_recursion NotSpace (codes "discard") (omega arith)

no_space-route : (version : Version) (p : Prefix) (pref : ℕ) (next : Hop) → pref < 2 ^ 32 → HasHop version next → NoSpaces (route_words p pref next)
no_space-route version p pref next fits has = (no_space-prefix p, (no_space-decimal pref (omega arith), no_space-hop version next has))

no_space-words : (version : Version) (cmd : Cmd) → HasCommand version cmd → NoSpaces (words cmd)
no_space-words version (Add p pref hop) fits = (All-from_recursion NotSpace (codes "add") (omega arith), no_space-route version p pref hop fits.1 fits.2)
no_space-words version (Replace p pref hop) fits =
    (All-from_recursion NotSpace (codes "replace") (omega arith), no_space-route version p pref hop fits.1 fits.2)
no_space-words version (Withdraw p) fits = (All-from_recursion NotSpace (codes "withdraw") (omega arith), no_space-prefix p)
no_space-words version (Lookup addr) fits = (All-from_recursion NotSpace (codes "lookup") (omega arith), no_space-address addr.0 fits.1)
no_space-words version Dump fits = All-from_recursion NotSpace (codes "dump") (omega arith)
no_space-words version Purge fits = All-from_recursion NotSpace (codes "purge") (omega arith)

-- the fields of a command's text are its words
pub fields-command_text : (version : Version) (cmd : Cmd) → HasCommand version cmd → fields (command_text cmd) ≡ words cmd
fields-command_text version cmd fits = fields-joined (words cmd) (no_space-words version cmd fits)

length-route : (p : Prefix) (pref : ℕ) (next : Hop) → pref < 2 ^ 32 → length (join_with_byte space (route_words p pref next)) ≤ 107
length-route p pref next fits =
    omega (
      arith,
      length-append (prefix_text p.base p.len) (space ∷ (decimal pref ++ space ∷ hop_text next)),
      length-append (decimal pref) (space ∷ hop_text next),
      length-prefix_text p.base p.len,
      length-decimal-le 10 pref (omega arith) (omega arith) (omega arith),
      hop_fits next,
    )

-- a command's text is at most as long as a line may be
pub length-command_text : (version : Version) (cmd : Cmd) → HasCommand version cmd → length (command_text cmd) ≤ LINE_BYTES
length-command_text version (Add p pref hop) fits = omega (arith, length-route p pref hop fits.1)
length-command_text version (Replace p pref hop) fits = omega (arith, length-route p pref hop fits.1)
length-command_text version (Withdraw p) fits = omega (arith, length-prefix_text p.base p.len)
length-command_text version (Lookup addr) fits = omega (arith, length-address_text addr.0)
length-command_text version cmd fits = omega arith

-- a command's text is not skipped
pub not_skipped-command_text : (cmd : Cmd) → is_skipped (command_text cmd) ≡ false
not_skipped-command_text (Add p pref hop) = refl
not_skipped-command_text cmd = refl

-- a decimal begins with a digit, so a line that begins with it is not skipped
first_digit : (n : ℕ) → n < 2 ^ 64 → (rest : List ℕ) → (slice_index_or (decimal n ++ rest) 0 0 < 58) × (is_skipped (decimal n ++ rest) ≡ false)
first_digit =
    decimal_by_steps (λ n digits. (rest : List ℕ) → (slice_index_or (digits ++ rest) 0 0 < 58) × (is_skipped (digits ++ rest) ≡ false))
    (λ n one rest. (omega arith, ne_eqb (48 + n) hash (λ same. omega (arith, same))))
    (λ n digits more first rest. rw append_assoc (first ((48 + n % 10) ∷ rest)))

-- such as an address's text
pub not_skipped-address_text : (address : ℕ) → address < 2 ^ 32 → is_skipped (address_text address) ≡ false
unfolding address_text
not_skipped-address_text address small = (first_digit (address / 2 ^ 24 % 256) (omega arith) _).1

-- and no address is spelled `discard`
pub address-ne-discard : (address : ℕ) → address < 2 ^ 32 → address_text address ≢ codes "discard"
unfolding address_text
address-ne-discard address small is =
    let more = dot ∷ (decimal (address / 2 ^ 16 % 256) ++ dot ∷ (decimal (address / 2 ^ 8 % 256) ++ dot ∷ decimal (address % 256))) in
    let digit = first_digit (address / 2 ^ 24 % 256) (omega arith) more in omega (arith, digit.0, ap (λ text. slice_index_or text 0 0) is)
