-- The progress of a run: the lines read, the commands that wait (in the report as refused), and the gate's gains.
use Rattle.std.specs.Prelude.{◌≡◌, ◌⊎◌, ℕ, if◌then◌else◌, List, [], ◌∷◌, ◌++◌, length, map, take, drop, zip}
use Rattle.rt_rib.specs.declared.commands.Cmd.{Cmd}
use Rattle.rt_shared.specs.declared.outcome.Outcome.{Outcome}
use Rattle.rt_shared.specs.declared.outcome.Outcome.TheVariants.{Refused}
use Rattle.rt_feed.specs.declared.report.Line.{Line}
use Rattle.rt_feed.specs.declared.running.FeedRun.{FeedRun}
use Rattle.rt_feed.specs.Reports.{is_fault}
use Rattle.rt_feed.specs.Grammar.{AnswersLine}
use Rattle.rt_feed.specs.Lines.{LineOutcome, LinesYield, reading, command_answer, line_answer, numbered, report_lines, command_of, commands_of}
use Rattle.rt_shared.specs.JournalVisits.{AnsweredBatch, visit_of}
use Rattle.rt_feed.specs.Visits.{Gains, piece_of}
use Rattle.rt_feed.specs.FeedRuns.{AsksLines}

-- the lines, after those that aren't faults were given these outcomes, in order
abbrev pub filled : List Line → List Outcome → List Line
filled [] outcomes = []
filled (line ∷ lines) [] = line ∷ lines
filled (line ∷ lines) (outcome ∷ outcomes) =
    if is_fault line.answer then line ∷ filled lines (outcome ∷ outcomes)
    else record line { answer = command_answer outcome } ∷ filled lines outcomes

-- the commands, each refused
abbrev pub as_refused : List Cmd → List (Cmd × Outcome)
as_refused cmds = map (λ cmd. (cmd, Refused)) cmds

-- the commands that waited were executed, in one visit if there are any, and the report has their outcomes from this
-- index on
pub record AnswersWaiting {G : Type 0} (holds : G → List AnsweredBatch → Type 0) (old new : G) (cmds : List Cmd) (first : ℕ) (report report' : List Line) : Type 0 where
  pub outcomes : List Outcome
  pub each : length outcomes ≡ length cmds
  pub gained : Gains holds old new (map visit_of (piece_of (zip cmds outcomes)))
  pub reported : (report' ≡ take first report ++ filled (drop first report) outcomes)
      ⊎ ((report' ≡ report) × (outcomes ≡ map (λ cmd. Refused) cmds))

-- the line of this number is read: the report has its answer, and its command waits, in the report as refused
pub record Gathers (number : ℕ) (line : List ℕ) (run run' : FeedRun) : Type 0 where
  pub outcome : LineOutcome
  pub reads : AnswersLine run.version line (reading outcome)
  pub reported : run'.report ≡ run.report ++ numbered number (line_answer outcome)
  pub gathered : as_refused run'.gathered.items ≡ as_refused run.gathered.items ++ command_of outcome
  pub first : run'.first ≡ run.first
  pub version : run'.version ≡ run.version

-- the run has read `number` lines of the text, and this rest is unread. The commands of the first lines, which include
-- the line of the version, were executed, and no piece of them has less than a batch; those of the others are gathered,
-- and are in the report as refused
pub record HasRead {G : Type 0} (holds : G → List AnsweredBatch → Type 0) (batch : ℕ) (text rest : List ℕ) (number : ℕ) (old now : G) (run : FeedRun) : Type 0 where
  pub settled : List LineOutcome
  pub unasked : List ℕ
  pub asks : AsksLines holds batch text settled unasked old now
  pub full : asks.cut.last ≡ []
  pub versioned : asks.becomes.version ≡ run.version
  pub waiting : List LineOutcome
  pub become : LinesYield run.version unasked waiting rest
  pub counted : number ≡ length (settled ++ waiting)
  pub reported : run.report ≡ report_lines 1 (settled ++ waiting)
  pub first : run.first ≡ length (report_lines 1 settled)
  pub gathered : commands_of waiting ≡ as_refused run.gathered.items
