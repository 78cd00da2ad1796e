-- The split of a text into lines, and its version. LF ends a line, and is optional after the last line. The outcomes of
-- the lines, with the lines of a report and the commands for them.
use Rattle.std.specs.Prelude.{◌≡◌, ◌≢◌, ◌⊎◌, ℕ, List, [], ◌∷◌, ◌++◌, All, codes, ◌+◌, Option, None, Some, Ok, Err}
use Rattle.rt_feed.specs.declared.versions.Version.{Version}
use Rattle.rt_feed.specs.declared.versions.Version.TheVariants.{One, Two}
use Rattle.std.specs.List.{flat_map}
use Rattle.std.specs.declared.result.Result.{Result}
use Rattle.rt_rib.specs.declared.commands.Cmd.{Cmd}
use Rattle.rt_shared.specs.declared.outcome.Outcome.{Outcome}
use Rattle.rt_shared.specs.declared.outcome.Outcome.TheVariants as outcome
use Rattle.rt_feed.specs.declared.parse.LineFault.{LineFault}
use Rattle.rt_feed.specs.declared.report.Line.{Line}
use Rattle.rt_feed.specs.declared.report.Answer.{Answer}
use Rattle.rt_feed.specs.declared.report.Answer.TheVariants.{Did, Refused, Fault}
use Rattle.rt_feed.specs.Grammar.{AnswersLine}

-- the byte that ends a line
abbrev pub lf : ℕ
lf = 10

-- the text's first line, without its LF, and its rest: the line has no LF, and either an LF follows it or it is the
-- whole text, which is not empty
pub record CutsLine (text line rest : List ℕ) : Type 0 where
  pub unbroken : All (λ byte. byte ≢ lf) line
  pub ended : (text ≡ line ++ lf ∷ rest) ⊎ ((text ≡ line) × (line ≢ []) × (rest ≡ []))

-- the text's first line is exactly `version 2`, and this rest follows it
abbrev pub HasVersion2Header : List ℕ → List ℕ → Type 0
HasVersion2Header text rest = CutsLine text (codes "version 2") rest

-- the text has version 2, and these are the lines after its first one; or it has version 1, and these are all its lines
abbrev pub IsBody : List ℕ → Version → List ℕ → Type 0
IsBody text One lines = ((rest : List ℕ) → ¬ HasVersion2Header text rest) × (lines ≡ text)
IsBody text Two lines = HasVersion2Header text lines

-- the text's version
abbrev pub IsVersion : List ℕ → Version → Type 0
IsVersion text version = (lines : List ℕ) × IsBody text version lines

-- the outcome of one line: skipped, a fault, or a command with its outcome
pub data LineOutcome : Type 0 where
  skipped : LineOutcome
  faulty : LineFault → LineOutcome
  asked : Cmd → Outcome → LineOutcome

-- the meaning of the line itself, without its command's outcome
abbrev pub reading : LineOutcome → Result (Option Cmd) LineFault
reading skipped = Ok None
reading (faulty fault) = Err fault
reading (asked cmd outcome) = Ok (Some cmd)

-- the text begins with lines that have these values in order by the relation `says`, and this is the rest
abbrev pub LinesParseAs : {X : Type 0} → (List ℕ → X → Type 0) → List ℕ → List X → List ℕ → Type 0
LinesParseAs says lines [] rest = lines ≡ rest
LinesParseAs says lines (one ∷ others) rest =
    (line : List ℕ) × (next : List ℕ) × CutsLine lines line next × says line one × LinesParseAs says next others rest

-- the text begins with lines that had these outcomes in order, each read as this version, and this is the rest
abbrev pub LinesYield : Version → List ℕ → List LineOutcome → List ℕ → Type 0
LinesYield version lines outcomes rest = LinesParseAs (λ line outcome. AnswersLine version line (reading outcome)) lines outcomes rest

-- the outcomes of the lines before those that are read: the line `version 2` is skipped
abbrev pub heading : Version → List LineOutcome
heading One = []
heading Two = skipped ∷ []

-- the text's first lines had these outcomes, each read as the text's version, and this is the rest after them; it is
-- empty after all lines
pub record TextYields (text : List ℕ) (outcomes : List LineOutcome) (rest : List ℕ) : Type 0 where
  pub version : Version
  pub lines : List ℕ
  pub read : List LineOutcome
  pub body : IsBody text version lines
  pub become : LinesYield version lines read rest
  pub joined : outcomes ≡ heading version ++ read

-- the answer of a command in a report
abbrev pub command_answer : Outcome → Answer
command_answer (outcome.Did reply) = Did reply
command_answer outcome.Refused = Refused

-- the answer for a line in the report, if there is one
abbrev pub line_answer : LineOutcome → Option Answer
line_answer skipped = None
line_answer (faulty fault) = Some (Fault fault)
line_answer (asked cmd outcome) = Some (command_answer outcome)

-- the line of a report with this number, if there is one
abbrev pub numbered : ℕ → Option Answer → List Line
numbered number None = []
numbered number (Some answer) = record { number = number; answer = answer } ∷ []

-- the report's lines for lines with these outcomes; the first has this number
abbrev pub report_lines : ℕ → List LineOutcome → List Line
report_lines number [] = []
report_lines number (outcome ∷ outcomes) = numbered number (line_answer outcome) ++ report_lines (number + 1) outcomes

-- the line's command with its outcome, if it has one
abbrev pub command_of : LineOutcome → List (Cmd × Outcome)
command_of (asked cmd outcome) = (cmd, outcome) ∷ []
command_of _ = []

-- the commands of the lines in order, each with its outcome
abbrev pub commands_of : List LineOutcome → List (Cmd × Outcome)
commands_of outcomes = flat_map command_of outcomes
