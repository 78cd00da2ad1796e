-- The result of a run of feeds before its text is written; and texts that are executed one after another: the effect of a
-- line, a text and the texts so far.
use Rattle.std.specs.Prelude.{◌≡◌, ◌≢◌, ◌↔◌, ◌==◌, if◌then◌else◌, ℕ, List, length, ◌+◌, ◌<◌, ◌≤◌, [], ◌++◌, get_or, map, All, Option, Result, Ok, Err, IsOk, IfOk}
use Rattle.std.specs.declared.vec.Vec.{Vec}
use Rattle.std.specs.declared.alloc.Global.{Global}
use Rattle.std.specs.declared.alloc.AllocError.{AllocError}
use Rattle.rt_rib.specs.declared.routes.Route.{Route}
use Rattle.rt_rib.specs.Book.{BookContents, TableContents, TableState}
use Rattle.rt_feed.specs.declared.report.Line.{Line}
use Rattle.rt_feed.specs.Lines.{LineOutcome, TextYields, LinesYield, reading, line_answer, report_lines, command_of, commands_of}
use Rattle.rt_run.specs.RunText.{InputContents, RunContents, in_batches, IsJournalOfRun, reports_of}
use Rattle.rt_rib.specs.declared.commands.Cmd.{Cmd}
use Rattle.rt_rib.specs.declared.commands.Entry.{Entry}
use Rattle.rt_rib.specs.Sequential.{table_of_journal, IsLawfulJournal}
use Rattle.rt_shared.specs.declared.outcome.Outcome.{Outcome}
use Rattle.rt_shared.specs.JournalVisits.{visit_of, entries}
use Rattle.rt_feed.specs.declared.report.Answer.{Answer}
use Rattle.rt_feed.specs.declared.versions.Version.{Version}
use Rattle.rt_feed.specs.Grammar.{AnswersLine}
use Rattle.rt_run.specs.declared.tallies.RejectedInput.{RejectedInput}
use Rattle.rt_feed.specs.declared.faults.RunFault.{RunFault}
use Rattle.rt_feed.specs.declared.faults.RunFault.TheVariants.{NoText, FeedCount}
use Rattle.rt_run.specs.TableText.{tally_of, has_faulty, LeavesTable, IsGivenBack}
use Rattle.rt_run.specs.Shares.{share_with, is_of_other}
use Rattle.rt_run.specs.ChosenFeeds.{texts_kept}

-- the texts were run to their ends, and these are the reports and the book
pub record RunOverBook (asked : RunContents) (reports : List (List Line)) (book : BookContents) : Type 0 where
  pub limited : book.limit ≡ asked.limit
  pub outcomes : List (List LineOutcome)
  pub history : IsJournalOfRun asked.texts asked.limit asked.batch book.journal outcomes
  pub reported : reports ≡ reports_of outcomes
  pub counted : length reports ≡ length asked.texts

-- the feed's commands had these outcomes: to each lawful journal that leaves the old routes their entries may be appended, and
-- it is still lawful and leaves the new routes
abbrev pub Continues : ℕ → List (Cmd × Outcome) → TableState → TableState → Type 0
Continues feed asked old new = (new.limit ≡ old.limit)
    × ((journal : List Entry) → IsLawfulJournal old.limit journal → old.routes ≡ table_of_journal old.limit journal
    → IsLawfulJournal old.limit (journal ++ entries feed (visit_of asked))
    × (new.routes ≡ table_of_journal old.limit (journal ++ entries feed (visit_of asked))))

-- the line was executed, and a report would have this answer for it, if it had one
pub record ExecutesLine (version : Version) (feed : ℕ) (line : List ℕ) (old new : TableState) (answer : Option Answer) : Type 0 where
  pub outcome : LineOutcome
  pub reads : AnswersLine version line (reading outcome)
  pub answered : answer ≡ line_answer outcome
  pub continued : Continues feed (command_of outcome) old new

-- the whole text was executed, and this is the tally of the report that it would have
pub record ExecutesText (feed : ℕ) (text : List ℕ) (old new : TableState) (tally : RejectedInput) : Type 0 where
  pub outcomes : List LineOutcome
  pub becomes : TextYields text outcomes []
  pub continued : Continues feed (commands_of outcomes) old new
  pub tallied : tally ≡ tally_of (report_lines 1 outcomes)

-- the first lines of the text were executed: whatever the rest becomes, the text becomes these lines and then the rest
pub record IsExecuting (version : Version) (feed : ℕ) (text rest : List ℕ) (number : ℕ) (old now : TableState) (tally : RejectedInput) : Type 0 where
  pub outcomes : List LineOutcome
  pub onward : (more : List LineOutcome) → LinesYield version rest more [] → TextYields text (outcomes ++ more) []
  pub counted : number ≡ length outcomes
  pub within : number + length rest ≤ length text
  pub continued : Continues feed (commands_of outcomes) old now
  pub tallied : tally ≡ tally_of (report_lines 1 outcomes)

-- fewer lines were counted than this number
pub record IsBelow (number : ℕ) (tally : RejectedInput) : Type 0 where
  pub faulty : tally.faulty.count < number
  pub full : tally.full.count < number
  pub existing : tally.existing.count < number
  pub missing : tally.missing.count < number
  pub refused : tally.refused < number

-- whatever the size of a batch, some run of this input left this table with these tallies
abbrev pub LeavesInAnyBatches : InputContents → List Route → List RejectedInput → Type 0
LeavesInAnyBatches input table tallies = (batch : ℕ) → 1 ≤ batch → LeavesTable (in_batches batch input) table tallies

-- the table that the texts of a side left and the tally of each, or the reason why there is none
abbrev pub SideRun : Type 0
SideRun = Result (List Route × Vec RejectedInput Global) RunFault

-- the texts of a side were executed: some run of them left this table with these tallies, and their memory was given back; or
-- there is no text, or memory ran out
pub record EndsSide (old : InputContents) (run : SideRun) (new : InputContents) : Type 0 where
  pub ran : IfOk run (λ left. LeavesInAnyBatches old left.0 left.1.items)
  pub given_back : IfOk run (λ left. IsGivenBack old left.1.items new)
  pub refused : run ≢ Err FeedCount
  pub no_text : (run ≡ Err NoText) ↔ (old.texts ≡ [])

-- some run of the old texts left the old table, and some run of the new ones the new table; the tallies are those of the old
-- run and then of the new one
pub record LeavesBoth (old new : RunContents) (old_table new_table : List Route) (tallies : List RejectedInput) : Type 0 where
  pub old_tallies : List RejectedInput
  pub new_tallies : List RejectedInput
  pub old_left : LeavesTable old old_table old_tallies
  pub new_left : LeavesTable new new_table new_tallies
  pub tallied : tallies ≡ old_tallies ++ new_tallies

-- the part of an input that is dealt to a share: its texts, and an empty one in the place of each other text
abbrev pub part_of : InputContents → List ℕ → ℕ → InputContents
part_of input dealt share = record { texts = texts_kept (is_of_other dealt share) 1 input.texts; limit = input.limit }

-- elements of two lists were exchanged: those at the places that are dealt to this share
pub record AreExchanged {X : Type 0} (dealt : List ℕ) (share : ℕ) (one other one' other' : List X) : Type 0 where
  pub as_many : (length one' ≡ length one) × (length other' ≡ length other)
  pub one_has : (k : ℕ) (none : X) → k < length one → get_or one' k none ≡ (if share_with dealt k == share then get_or other k none else get_or one k none)
  pub other_has : (k : ℕ) (none : X) → k < length one → get_or other' k none ≡ (if share_with dealt k == share then get_or one k none else get_or other k none)

-- the table that a part of the texts left, a tally for each text and the part afterwards; or memory ran out
abbrev pub PartRun : Type 0
PartRun = Result (TableContents × Vec RejectedInput Global × InputContents) AllocError

-- some run of this part left the table with these tallies, and the memory of its texts was given back; or memory ran out
abbrev pub EndsPart : InputContents → PartRun → Type 0
EndsPart part run = IfOk run (λ left. LeavesInAnyBatches part left.0.routes left.1.items × IsGivenBack part left.1.items left.2)

-- each of these parts was executed
abbrev pub EndEachPart : List InputContents → List PartRun → Type 0
EndEachPart parts runs = (i : ℕ) (part : InputContents) (none : PartRun) → i < length parts → EndsPart (get_or parts i part) (get_or runs i none)

-- the part of each of these shares was executed
abbrev pub EndEach : InputContents → List ℕ → List PartRun → Type 0
EndEach input dealt runs = (share : ℕ) (none : PartRun) → share < length runs → EndsPart (part_of input dealt share) (get_or runs share none)

-- the routes of its table
abbrev pub routes_left : PartRun → List Route
routes_left (Ok left) = left.0.routes
routes_left (Err _) = []

-- its tallies
abbrev pub tallies_left : PartRun → List RejectedInput
tallies_left (Ok left) = left.1.items
tallies_left (Err _) = []

-- the part afterwards
abbrev pub part_left : PartRun → InputContents
part_left (Ok left) = left.2
part_left (Err _) = record { texts = []; limit = 0 }

-- the tables of these runs, their tallies, and their parts afterwards: memory ran out in none
pub record AreOfRuns (runs : List PartRun) (tables : List (List Route)) (tallies : List (List RejectedInput)) (parts : List InputContents) : Type 0 where
  pub ran : All IsOk runs
  pub tables_left : tables ≡ map routes_left runs
  pub told : tallies ≡ map tallies_left runs
  pub parts_left : parts ≡ map part_left runs

-- each of this number of texts is in one of these shares, and each share has a tally for every text
pub record AreTalliesOfEach (count : ℕ) (dealt : List ℕ) (tallies : List (List RejectedInput)) : Type 0 where
  pub dealt_to_some : (k : ℕ) → k < count → share_with dealt k < length tallies
  pub as_many : (share : ℕ) → share < length tallies → length (get_or tallies share []) ≡ count

-- the input after its parts were executed with these tallies, as `IsGivenBack` says it of one run of all texts
pub record IsGivenBackByShares (old : InputContents) (dealt : List ℕ) (tallies : List (List RejectedInput)) (new : InputContents) : Type 0 where
  pub limited : new.limit ≡ old.limit
  pub as_many : length new.texts ≡ length old.texts
  pub each : (k : ℕ) (none : RejectedInput) → k < length old.texts
      → get_or new.texts k [] ≡ (if has_faulty (get_or (get_or tallies (share_with dealt k) []) k none) then get_or old.texts k [] else [])
