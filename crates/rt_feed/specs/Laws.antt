-- The laws of the grammar of lines and of the split of a text into lines, for every line and every text.
use Rattle.std.specs.Prelude.{◌≡◌, ◌↔◌, ℕ, List, [], map, Option, Some, Ok}
use Rattle.std.specs.declared.result.Result.{Result}
use Rattle.rt_cidr.specs.declared.address.Addr.{Addr}
use Rattle.rt_rib.specs.declared.commands.Cmd.{Cmd}
use Rattle.rt_feed.specs.declared.parse.LineFault.{LineFault}
use Rattle.rt_feed.specs.declared.versions.Version.{Version}
use Rattle.rt_feed.specs.declared.versions.Version.TheVariants.{One}
use Rattle.rt_feed.specs.CommandText.{command_text, HasCommand}
use Rattle.rt_feed.specs.declared.faulty.FaultyLines.{FaultyLines}
use Rattle.rt_feed.specs.Addresses.{AnswersAddressLine, AddressRow, SaysAddresses}
use Rattle.rt_feed.specs.Grammar.{AnswersLine}
use Rattle.rt_feed.specs.Lines.{CutsLine, HasVersion2Header, LineOutcome, LinesYield, TextYields, reading}

-- a line has at most one answer
abbrev pub LineHasOneAnswer : Type 0
LineHasOneAnswer =
    (version : Version) (line : List ℕ) (one two : Result (Option Cmd) LineFault) →
    AnswersLine version line one → AnswersLine version line two → one ≡ two

-- and so has a line of a text of addresses
abbrev pub AddressLineHasOneAnswer : Type 0
AddressLineHasOneAnswer =
    (line : List ℕ) (one two : Result (Option Addr) LineFault) → AnswersAddressLine line one → AnswersAddressLine line two → one ≡ two

-- and so a text of addresses has only one list of rows, one count of faulty lines and one first faulty line
abbrev pub AddressTextHasOneReading : Type 0
AddressTextHasOneReading =
    (text : List ℕ) (rows others : List AddressRow) (faulty other_faulty : FaultyLines) →
    SaysAddresses text rows faulty → SaysAddresses text others other_faulty → (rows ≡ others) × (faulty ≡ other_faulty)

-- the text of a command reads as that command, in texts of every version that has it
abbrev pub CommandIsReadAgain : Type 0
CommandIsReadAgain =
    (version : Version) (cmd : Cmd) (answer : Result (Option Cmd) LineFault) →
    HasCommand version cmd → AnswersLine version (command_text cmd) answer → answer ≡ Ok (Some cmd)

-- and no other line does
abbrev pub OnlyItsTextIsRead : Type 0
OnlyItsTextIsRead =
    (version : Version) (line : List ℕ) (cmd : Cmd) →
    AnswersLine version line (Ok (Some cmd)) → HasCommand version cmd × (line ≡ command_text cmd)

-- a text that does not begin with the line `version 2` has all its lines read as version 1
abbrev pub OlderTextsStay : Type 0
OlderTextsStay =
    (text : List ℕ) (outcomes : List LineOutcome) →
    ((rest : List ℕ) → ¬ HasVersion2Header text rest) → TextYields text outcomes [] ↔ LinesYield One text outcomes []

-- a text is split into its first line and its rest in at most one way
abbrev pub TextHasOneCut : Type 0
TextHasOneCut =
    (text line rest other other_rest : List ℕ) → CutsLine text line rest → CutsLine text other other_rest → (line ≡ other) × (rest ≡ other_rest)

-- each line of a text has the same meaning, whatever the outcomes of its commands
abbrev pub TextHasOneReading : Type 0
TextHasOneReading =
    (text : List ℕ) (outcomes others : List LineOutcome) → TextYields text outcomes [] → TextYields text others [] → map reading outcomes ≡ map reading others
