-- The runs of feeds' texts through their gates.
use Rattle.std.specs.Prelude.{◌≡◌, ◌≢◌, ℕ, List, [], map, None, Option, IsSome, MatchOption}
use Rattle.rt_rib.specs.declared.commands.Cmd.{Cmd}
use Rattle.rt_shared.specs.declared.outcome.Outcome.{Outcome}
use Rattle.rt_feed.specs.declared.report.Line.{Line}
use Rattle.rt_feed.specs.Lines.{CutsLine, LineOutcome, LinesYield, TextYields, reading, line_answer, report_lines, commands_of}
use Rattle.rt_feed.specs.declared.versions.Version.{Version}
use Rattle.rt_feed.specs.Grammar.{AnswersLine}
use Rattle.rt_shared.specs.JournalVisits.{AnsweredBatch, visit_of}
use Rattle.rt_feed.specs.Visits.{Gains, IsSplitInto}

-- the text's first lines had these outcomes, and the gate executed their commands in pieces of `batch`, with a visit
-- for each piece
pub record AsksLines {G : Type 0} (holds : G → List AnsweredBatch → Type 0) (batch : ℕ) (text : List ℕ) (outcomes : List LineOutcome) (rest : List ℕ)
    (old new : G) : Type 0 where
  pub becomes : TextYields text outcomes rest
  pub pieces : List (List (Cmd × Outcome))
  pub cut : IsSplitInto batch (commands_of outcomes) pieces
  pub gained : Gains holds old new (map visit_of pieces)

-- the whole text was executed this way, and this is the report of its outcomes
pub record RunsFeed {G : Type 0} (holds : G → List AnsweredBatch → Type 0) (batch : ℕ) (text : List ℕ) (old new : G) (report : List Line) : Type 0 where
  pub outcomes : List LineOutcome
  pub asks : AsksLines holds batch text outcomes [] old new
  pub reported : report ≡ report_lines 1 outcomes

-- in this version the line is a command or faulty, so a report has an answer for it
abbrev pub IsTold : Version → List ℕ → Type 0
IsTold version line = (outcome : LineOutcome) × AnswersLine version line (reading outcome) × (line_answer outcome ≢ None)

-- a prefix of the text was executed this way; more lines follow, and then one that is not skipped
pub record RunsPrefixOf {G : Type 0} (holds : G → List AnsweredBatch → Type 0) (batch : ℕ) (text : List ℕ) (old new : G) : Type 0 where
  pub outcomes : List LineOutcome
  pub unasked : List ℕ
  pub asks : AsksLines holds batch text outcomes unasked old new
  pub more : List LineOutcome
  pub rest : List ℕ
  pub become : LinesYield asks.becomes.version unasked more rest
  pub line : List ℕ
  pub next : List ℕ
  pub cut : CutsLine rest line next
  pub told : IsTold asks.becomes.version line

-- the feed's text was run through its gate, which keeps its name: either this is the report, or there is no report and
-- a prefix of the text was executed. An empty text has a report
pub record RunsOne {G N : Type 0} (name : G → N) (holds : G → List AnsweredBatch → Type 0) (batch : ℕ) (text : List ℕ) (old new : G)
    (report : Option (List Line)) : Type 0 where
  pub named : name new ≡ name old
  pub runs : MatchOption report (RunsPrefixOf holds batch text old new) (λ lines. RunsFeed holds batch text old new lines)
  pub nothing : text ≡ [] → IsSome report
