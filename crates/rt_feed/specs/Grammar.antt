-- The grammar of one line of a feed's text, without its LF: the command with this text, or the first fault.
use Rattle.std.specs.Prelude.{◌≡◌, ◌≢◌, ℕ, ◌^◌, ◌<◌, ◌≤◌, ◌==◌, ◌⊎◌, Bool, true, false}
use Rattle.std.specs.Prelude.{List, [], ◌∷◌, length, decimal, Option, None, Some, Ok, Err}
use Rattle.std.specs.declared.result.Result.{Result}
use Rattle.std.specs.List.{slice_split}
use Rattle.rt_cidr.specs.declared.address.Addr.{Addr}
use Rattle.rt_cidr.specs.declared.prefixes.Prefix.{Prefix}
use Rattle.rt_cidr.specs.declared.prefixes.TextFault.{TextFault}
use Rattle.rt_cidr.specs.declared.prefixes.TextFault.TheVariants.{Text, Length, Bits}
use Rattle.rt_cidr.specs.Reading.{ReadsPrefix}
use Rattle.rt_cidr.specs.Text.{address_text, prefix_text}
use Rattle.rt_rib.specs.declared.routes.Hop.{Hop}
use Rattle.rt_rib.specs.declared.commands.Cmd.{Cmd}
use Rattle.rt_feed.specs.declared.parse.TheConstants.{LINE_BYTES}
use Rattle.rt_feed.specs.declared.parse.LineFault.{LineFault}
use Rattle.rt_feed.specs.declared.parse.LineFault.TheVariants as fault
use Rattle.rt_feed.specs.declared.versions.Version.{Version}
use Rattle.rt_feed.specs.Commands.{Kind, prefix, preference, hop, address, commands, kinds_among}
use Rattle.rt_feed.specs.CommandText.{space, command_text, HasHop, HasCommand}
use Rattle.rt_print.specs.Routes.{hop_text}

-- the first byte of a comment, `#`
abbrev pub hash : ℕ
hash = 35

-- true if the line has no command: it is empty, or it is a comment
abbrev pub is_skipped : List ℕ → Bool
is_skipped [] = true
is_skipped (byte ∷ line) = byte == hash

-- the fields of the line, which is split at every space; a field may be empty
abbrev pub fields : List ℕ → List (List ℕ)
fields line = slice_split (λ byte. byte == space) line

-- the field is the text of such a value
abbrev pub IsOfKind : Kind → List ℕ → Type 0
IsOfKind prefix field = (p : Prefix) × (field ≡ prefix_text p.base p.len)
IsOfKind preference field = (pref : ℕ) × (pref < 2 ^ 32) × (field ≡ decimal pref)
IsOfKind (hop version) field = (next : Hop) × HasHop version next × (field ≡ hop_text next)
IsOfKind address field = (a : Addr) × (a.0 < 2 ^ 32) × (field ≡ address_text a.0)

-- the line's fault for a field that isn't a prefix, by the reason why it isn't
abbrev pub prefix_fault : TextFault → LineFault
prefix_fault Text = fault.Text
prefix_fault Length = fault.PrefixLength
prefix_fault Bits = fault.PrefixBits

-- the fault of a field of the wrong kind
abbrev pub IsFaultOf : Kind → List ℕ → LineFault → Type 0
IsFaultOf prefix field answer = (reason : TextFault) × ReadsPrefix field (Err reason) × (answer ≡ prefix_fault reason)
IsFaultOf preference field answer = answer ≡ fault.Preference
IsFaultOf (hop version) field answer = answer ≡ fault.Hop
IsFaultOf address field answer = answer ≡ fault.Text

-- the fault of the first field, from the left, of the wrong kind
abbrev pub IsFirstFault : List Kind → List (List ℕ) → LineFault → Type 0
IsFirstFault (kind ∷ kinds) (field ∷ rest) answer =
    ((¬ IsOfKind kind field) × IsFaultOf kind field answer) ⊎ (IsOfKind kind field × IsFirstFault kinds rest answer)
IsFirstFault kinds rest answer = ⊥

-- the kinds of the fields after this one, if it is a command's name in texts of this version
abbrev pub kinds_after : Version → List ℕ → Option (List Kind)
kinds_after version field = kinds_among commands version field

-- the fault after a first field: that it isn't a command's name; or else that the number of the fields after it is
-- wrong, or the first fault of these fields
abbrev pub IsFaultAfter : Option (List Kind) → List (List ℕ) → LineFault → Type 0
IsFaultAfter None rest answer = answer ≡ fault.Command
IsFaultAfter (Some kinds) rest answer =
    ((length rest ≢ length kinds) × (answer ≡ fault.FieldCount))
    ⊎ ((length rest ≡ length kinds) × IsFirstFault kinds rest answer)

-- the first fault of a line's fields from the left
abbrev pub IsFaultOfFields : Version → List (List ℕ) → LineFault → Type 0
IsFaultOfFields version [] answer = ⊥
IsFaultOfFields version (name ∷ rest) answer = IsFaultAfter (kinds_after version name) rest answer

-- the answer for a line of a text of this version: a command, if the line is its text; none, if the line is skipped; or
-- a fault. The fault is that the line is too long, whatever it says, or else the first of its fields from the left
abbrev pub AnswersLine : Version → List ℕ → Result (Option Cmd) LineFault → Type 0
AnswersLine version line (Ok (Some cmd)) = HasCommand version cmd × (line ≡ command_text cmd)
AnswersLine version line (Ok None) = (length line ≤ LINE_BYTES) × (is_skipped line ≡ true)
AnswersLine version line (Err answer) =
    ((LINE_BYTES < length line) × (answer ≡ fault.LineLength))
    ⊎ ((length line ≤ LINE_BYTES) × (is_skipped line ≡ false) × IsFaultOfFields version (fields line) answer)
