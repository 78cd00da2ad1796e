-- What a gate with its own book holds, and the result of running a text through it.
use Rattle.std.specs.Prelude.{◌≡◌, ℕ, List, [], map}
use Rattle.rt_rib.specs.declared.commands.Cmd.{Cmd}
use Rattle.rt_rib.specs.declared.commands.Entry.{Entry}
use Rattle.rt_shared.specs.declared.outcome.Outcome.{Outcome}
use Rattle.rt_feed.specs.declared.report.Line.{Line}
use Rattle.rt_feed.specs.Lines.{LineOutcome, TextYields, report_lines, commands_of}
use Rattle.rt_shared.specs.JournalVisits.{AnsweredBatch, visit_of, entries}
use Rattle.rt_feed.specs.Visits.{IsSplitInto, concatenated}

-- the journal has the commands and replies of these visits, in order, as entries of feed 1
abbrev pub HasVisits : List Entry → List AnsweredBatch → Type 0
HasVisits journal visits = journal ≡ entries 1 (concatenated visits)

-- the text's lines became these, this is their report, and the journal has the replies to the commands among them,
-- executed one by one
pub record IsRunOf (text : List ℕ) (report : List Line) (journal : List Entry) : Type 0 where
  pub outcomes : List LineOutcome
  pub becomes : TextYields text outcomes []
  pub reported : report ≡ report_lines 1 outcomes
  pub pieces : List (List (Cmd × Outcome))
  pub cut : IsSplitInto 1 (commands_of outcomes) pieces
  pub journaled : HasVisits journal (map visit_of pieces)
