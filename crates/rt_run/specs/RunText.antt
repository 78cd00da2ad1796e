-- The input of a run, and the text that a run of feeds writes: one lawful journal explains every reply in it, and the table at its end.
use Rattle.std.specs.Prelude.{ℕ, List, ◌≡◌, ◌≢◌, ◌+◌, ◌≤◌, Bool, if◌then◌else◌, [], ◌∷◌, ◌++◌, All, length, map, Option, Result, Ok, Err}
use Rattle.std.specs.List.{list_any}
use Rattle.std.specs.Io.KnownBytes.{Appends}
use Rattle.rt_cidr.specs.Output.{AppendsBeginning}
use Rattle.rt_rib.specs.declared.commands.Cmd.{Cmd}
use Rattle.rt_rib.specs.declared.commands.Entry.{Entry}
use Rattle.rt_rib.specs.Sequential.{IsLawfulJournal, table_of_journal}
use Rattle.rt_shared.specs.declared.outcome.Outcome.{Outcome}
use Rattle.rt_shared.specs.JournalVisits.{IsContiguousIn, visit_of, entries}
use Rattle.rt_feed.specs.declared.report.Line.{Line}
use Rattle.rt_feed.specs.Lines.{LineOutcome, TextYields, commands_of, report_lines}
use Rattle.rt_feed.specs.Visits.{IsSplitInto}
use Rattle.rt_feed.specs.Reports.{has_refusal, has_fault}
use Rattle.rt_feed.specs.Printed.{report_text}
use Rattle.rt_print.specs.Routes.{table_text}
use Rattle.rt_feed.specs.declared.faults.RunFault.TheVariants as fault
use Rattle.rt_run.specs.declared.faults.AppFault.{AppFault}
use Rattle.rt_run.specs.declared.faults.AppFault.TheVariants.{Run, Replay, Write}

-- the input of a query: the texts of feeds, and the maximum number of routes of each feed
pub record InputContents : Type 0 where
  pub texts : List (List ℕ)
  pub limit : ℕ

-- the input of a run: the same, and the maximum number of a feed's commands that are executed together
pub record RunContents : Type 0 where
  pub texts : List (List ℕ)
  pub limit : ℕ
  pub batch : ℕ

-- the input of a run of these texts in batches of this size
abbrev pub in_batches : ℕ → InputContents → RunContents
in_batches batch input = record { texts = input.texts; limit = input.limit; batch = batch }

-- the feed's whole text became these lines. Its commands are split into pieces of `batch`: the answered commands of each
-- piece are in the journal in one piece, in this order, and no other entry of the journal is the feed's
pub record Explains (batch feed : ℕ) (journal : List Entry) (text : List ℕ) (lines : List LineOutcome) : Type 0 where
  pub becomes : TextYields text lines []
  pub pieces : List (List (Cmd × Outcome))
  pub cut : IsSplitInto batch (commands_of lines) pieces
  pub uncut : IsContiguousIn feed (map (entries feed) (map visit_of pieces)) journal

-- each text became these lines, and the journal explains them; the first text is this feed's, the next the next feed's
abbrev pub ExplainsFrom : ℕ → ℕ → List Entry → List (List ℕ) → List (List LineOutcome) → Type 0
ExplainsFrom batch feed journal [] [] = Unit {0}
ExplainsFrom batch feed journal (text ∷ texts) (lines ∷ outcomes) =
    Explains batch feed journal text lines × ExplainsFrom batch (feed + 1) journal texts outcomes
ExplainsFrom batch feed journal texts outcomes = ⊥

-- the journal is lawful, with at most `limit` routes for each feed; it explains what the lines of each text became, with
-- up to `batch` commands executed together; and it has no entry of another feed
pub record IsJournalOfRun (texts : List (List ℕ)) (limit batch : ℕ) (journal : List Entry) (outcomes : List (List LineOutcome)) : Type 0 where
  pub lawful : IsLawfulJournal limit journal
  pub explained : ExplainsFrom batch 1 journal texts outcomes
  pub no_other : All (λ e. (1 ≤ e.feed) × (e.feed ≤ length texts)) journal

-- the reports of texts whose lines became these
abbrev pub reports_of : List (List LineOutcome) → List (List Line)
reports_of outcomes = map (report_lines 1) outcomes

-- the texts of reports, one after another; the first report is this feed's
abbrev pub reports_text : ℕ → List (List Line) → List ℕ
reports_text feed [] = []
reports_text feed (report ∷ reports) = report_text feed report ++ reports_text (feed + 1) reports

-- some command ran out of memory
abbrev pub some_refused : List (List LineOutcome) → Bool
some_refused outcomes = list_any has_refusal (reports_of outcomes)

-- 5 if some command ran out of memory, else 2 if other input was rejected, else 0
abbrev pub status_where : Bool → Bool → ℕ
status_where refused left_out = if refused then 5 else if left_out then 2 else 0

-- the status of a run with these reports; a faulty line counts as rejected input
abbrev pub reports_status : List (List Line) → ℕ
reports_status reports = status_where (list_any has_refusal reports) (list_any has_fault reports)

-- the bytes are the text of a run of these texts, and this is its status: some journal explains what their lines became,
-- and the bytes are the reports of these lines and then the table that the journal leaves
pub record IsRunText (texts : List (List ℕ)) (limit batch : ℕ) (bytes : List ℕ) (status : ℕ) : Type 0 where
  pub journal : List Entry
  pub outcomes : List (List LineOutcome)
  pub history : IsJournalOfRun texts limit batch journal outcomes
  pub printed : bytes ≡ reports_text 1 (reports_of outcomes) ++ table_text (table_of_journal limit journal)
  pub is_status : status ≡ reports_status (reports_of outcomes)

-- the effect of a call on its writer: bytes of this kind, with the result; nothing if the run failed, which is never for
-- F2 nor with a replay's error; a beginning of such bytes if the writer failed
abbrev pub WritesOrFails : {X : Type 0} → (List ℕ → X → Type 0) → Option (List ℕ) → Option (List ℕ) → Result X AppFault → Type 0
WritesOrFails {X} IsSuch old new (Ok given) = (bytes : List ℕ) × IsSuch bytes given × Appends old new bytes
WritesOrFails {X} IsSuch old new (Err (Run refusal)) = (refusal ≢ fault.FeedCount) × (new ≡ old)
WritesOrFails {X} IsSuch old new (Err (Replay fault)) = ⊥
WritesOrFails {X} IsSuch old new (Err Write) = (bytes : List ℕ) × (given : X) × IsSuch bytes given × AppendsBeginning old new bytes
