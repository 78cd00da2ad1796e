-- The text of a command: its words, joined by single spaces.
use Rattle.std.specs.Prelude.{◌≡◌, ℕ, ◌^◌, ◌<◌, true, List, [], ◌∷◌, decimal}
use Rattle.std.specs.List.{join_with_byte}
use Rattle.rt_cidr.specs.declared.prefixes.Prefix.{Prefix}
use Rattle.rt_cidr.specs.Text.{address_text, prefix_text}
use Rattle.rt_rib.specs.declared.routes.Hop.{Hop}
use Rattle.rt_rib.specs.declared.routes.Hop.TheVariants.{Via, Discard}
use Rattle.rt_rib.specs.declared.commands.Cmd.{Cmd}
use Rattle.rt_rib.specs.declared.commands.Cmd.TheVariants.{Add, Replace, Withdraw, Lookup, Dump, Purge}
use Rattle.rt_feed.specs.declared.versions.Version.{Version}
use Rattle.rt_feed.specs.declared.versions.Version.TheVariants.{Two}
use Rattle.rt_feed.specs.Commands.{add_form, replace_form, withdraw_form, lookup_form, dump_form, purge_form, has}
use Rattle.rt_print.specs.Routes.{hop_text}

-- the byte between two words
abbrev pub space : ℕ
space = 32

-- a prefix, a preference and a next hop
abbrev pub route_words : Prefix → ℕ → Hop → List (List ℕ)
route_words prefix pref hop = prefix_text prefix.base prefix.len ∷ decimal pref ∷ hop_text hop ∷ []

-- the command's name, and then its fields, all numbers plain decimals
abbrev pub words : Cmd → List (List ℕ)
words (Add prefix pref hop) = add_form.word ∷ route_words prefix pref hop
words (Replace prefix pref hop) = replace_form.word ∷ route_words prefix pref hop
words (Withdraw prefix) = withdraw_form.word ∷ prefix_text prefix.base prefix.len ∷ []
words (Lookup addr) = lookup_form.word ∷ address_text addr.0 ∷ []
words Dump = dump_form.word ∷ []
words Purge = purge_form.word ∷ []

-- the command's line, without its LF
abbrev pub command_text : Cmd → List ℕ
command_text cmd = join_with_byte space (words cmd)

-- texts of this version may have the next hop: `discard` came with version 2; an address has 32 bits, as its type says
abbrev pub HasHop : Version → Hop → Type 0
HasHop version (Via address) = address.0 < 2 ^ 32
HasHop version Discard = version ≡ Two

-- texts of this version may have the command, by the table; a preference and an address have 32 bits
abbrev pub HasCommand : Version → Cmd → Type 0
HasCommand version (Add prefix pref hop) = (has version add_form.since ≡ true) × (pref < 2 ^ 32) × HasHop version hop
HasCommand version (Replace prefix pref hop) = (has version replace_form.since ≡ true) × (pref < 2 ^ 32) × HasHop version hop
HasCommand version (Lookup addr) = (has version lookup_form.since ≡ true) × (addr.0 < 2 ^ 32)
HasCommand version (Withdraw prefix) = has version withdraw_form.since ≡ true
HasCommand version Dump = has version dump_form.since ≡ true
HasCommand version Purge = has version purge_form.since ≡ true
