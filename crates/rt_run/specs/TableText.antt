-- The output of queries of a run's final table, and the tally of each text.
use Rattle.std.specs.Prelude.{◌≡◌, ℕ, Bool, true, false, ◌<◌, ◌||◌, if◌then◌else◌, nat_lt, List, [], ◌∷◌, ◌++◌, length, get_or, map, count_by, filter, filter_map, Option, Some, None}
use Rattle.std.specs.List.{flat_map, list_any}
use Rattle.rt_cidr.specs.declared.address.Addr.{Addr}
use Rattle.rt_rib.specs.declared.routes.Route.{Route}
use Rattle.rt_rib.specs.declared.commands.Reply.TheVariants.{Full, Exists, Missing}
use Rattle.rt_rib.specs.declared.commands.Entry.{Entry}
use Rattle.rt_rib.specs.LookUp.{look_up, look_up_all}
use Rattle.rt_rib.specs.Selection.{selected}
use Rattle.rt_rib.specs.Sequential.{table_of_journal}
use Rattle.rt_feed.specs.declared.parse.LineFault.{LineFault}
use Rattle.rt_feed.specs.declared.report.Line.{Line}
use Rattle.rt_feed.specs.declared.faulty.FaultyLines.{FaultyLines}
use Rattle.rt_feed.specs.declared.report.Answer.{Answer}
use Rattle.rt_feed.specs.declared.report.Answer.TheVariants.{Did, Refused, Fault}
use Rattle.rt_feed.specs.Lines.{LineOutcome}
use Rattle.rt_feed.specs.Addresses.{AddressRow, address_row, invalid_row, faulty_lines}
use Rattle.rt_feed.specs.Reports.{is_refusal}
use Rattle.rt_print.specs.Counts.{counts_as, rows_and_total_as}
use Rattle.rt_print.specs.Styles.{StyleContents, label_of, rows_header, rows_as, found_header, found_as, all_found_header, all_found_as, invalid_as}
use Rattle.rt_run.specs.declared.tallies.RejectedInput.{RejectedInput}
use Rattle.rt_run.specs.declared.tallies.RejectedLines.{RejectedLines}
use Rattle.rt_run.specs.declared.tallies.RunSummary.{RunSummary}
use Rattle.rt_run.specs.declared.question.Question.{Question}
use Rattle.rt_run.specs.declared.question.Question.TheVariants as ask
use Rattle.rt_run.specs.RunText.{InputContents, RunContents, IsJournalOfRun, reports_of, status_where}
use Rattle.rt_run.specs.Asked.{SaysRows}

-- what is printed for a row: the answer for its address; for an invalid line its number, if such lines are kept, or else nothing
abbrev pub line_answer_text : StyleContents → Bool → (Addr → List ℕ) → AddressRow → List ℕ
line_answer_text style keeps answer (address_row addr) = answer addr
line_answer_text style keeps answer (invalid_row number) = if keeps then invalid_as style.syntax number else []

-- for each row, in order, the result of looking its address up in the table, in the style
abbrev pub answers_text : StyleContents → Bool → List AddressRow → List Route → List ℕ
answers_text style keeps rows table = flat_map (line_answer_text style keeps (λ addr. found_as style.syntax (label_of style.labels) addr (look_up addr table))) rows

-- for each row, in order, all routes of the table that cover its address, the best first
abbrev pub all_answers_text : StyleContents → Bool → List AddressRow → List Route → List ℕ
all_answers_text style keeps rows table =
    flat_map (line_answer_text style keeps (λ addr. all_found_as style.syntax (label_of style.labels) addr (look_up_all addr table))) rows

-- the text that answers a question about a table, in the style; the rows have the addresses to look up. Answers
-- and routes follow their header, which only CSV has
abbrev pub question_text : StyleContents → Question → List AddressRow → List Route → List ℕ
question_text style (ask.Best addresses) rows table = found_header style.syntax ++ answers_text style addresses.now.keeps_invalid rows table
question_text style (ask.All addresses) rows table = all_found_header style.syntax ++ all_answers_text style addresses.now.keeps_invalid rows table
question_text style (ask.Routes selection) rows table = rows_header style.syntax ++ rows_as style (selected selection table)
question_text style (ask.RoutesAndTotal selection) rows table = rows_and_total_as style (selected selection table)
question_text style (ask.Counts selection) rows table = counts_as style (selected selection table)

-- an `add` was over the limit
abbrev pub was_full : Answer → Bool
was_full (Did Full) = true
was_full _ = false

-- the feed of an `add` already had a route to its prefix
abbrev pub was_existing : Answer → Bool
was_existing (Did Exists) = true
was_existing _ = false

-- the feed of a `replace` or `withdraw` had no route to its prefix
abbrev pub was_missing : Answer → Bool
was_missing (Did Missing) = true
was_missing _ = false

-- the number and the fault of a line, if it is faulty
abbrev pub fault_at : ℕ → Answer → Option (ℕ × LineFault)
fault_at number (Did reply) = None
fault_at number Refused = None
fault_at number (Fault fault) = Some (number, fault)

-- the faulty lines of a report, each with its number and its fault
abbrev pub faults_of : List Line → List (ℕ × LineFault)
faults_of report = filter_map (λ (line : Line). fault_at line.number line.answer) report

-- the numbers of a report's lines whose answers are of this kind
abbrev pub lines_where : (Answer → Bool) → List Line → List ℕ
lines_where is_such report = map (λ (line : Line). line.number) (filter (λ (line : Line). is_such line.answer) report)

-- the record of rejected lines with these numbers: how many they are, and the first of them
abbrev pub rejected_lines : List ℕ → RejectedLines
rejected_lines [] = record { count = 0; first = None }
rejected_lines (number ∷ others) = record { count = length (number ∷ others); first = Some number }

-- the rejected input of a text, from its report
abbrev pub tally_of : List Line → RejectedInput
tally_of report = record {
  faulty = faulty_lines (faults_of report);
  full = rejected_lines (lines_where was_full report);
  existing = rejected_lines (lines_where was_existing report);
  missing = rejected_lines (lines_where was_missing report);
  refused = count_by (λ (line : Line). is_refusal line.answer) report;
}

-- the tally of a text whose only rejected input are these faulty lines
abbrev pub faulty_tally : FaultyLines → RejectedInput
faulty_tally faulty = record { faulty = faulty; full = rejected_lines []; existing = rejected_lines []; missing = rejected_lines []; refused = 0 }

-- a command ran out of memory
abbrev pub has_refused : RejectedInput → Bool
has_refused tally = nat_lt 0 tally.refused

-- a line was faulty, or an `add` was over the limit
abbrev pub has_rejected : RejectedInput → Bool
has_rejected tally = nat_lt 0 tally.faulty.count || nat_lt 0 tally.full.count

-- a line was faulty
abbrev pub has_faulty : RejectedInput → Bool
has_faulty tally = nat_lt 0 tally.faulty.count

-- the status of a query: faulty lines and `add`s over the limit count as rejected input
abbrev pub tallies_status : List RejectedInput → ℕ
tallies_status tallies = status_where (list_any has_refused tallies) (list_any has_rejected tallies)

-- no command ran out of memory
abbrev pub NoneRefused : List RejectedInput → Type 0
NoneRefused tallies = list_any has_refused tallies ≡ false

-- some run of this input left this table, and these are the tallies of its reports
pub record LeavesTable (asked : RunContents) (table : List Route) (tallies : List RejectedInput) : Type 0 where
  pub journal : List Entry
  pub outcomes : List (List LineOutcome)
  pub history : IsJournalOfRun asked.texts asked.limit asked.batch journal outcomes
  pub left : table ≡ table_of_journal asked.limit journal
  pub tallied : tallies ≡ map tally_of (reports_of outcomes)

-- the input after its texts were executed with these tallies: a text with a faulty line is as it was, and the memory of each
-- other text was given back, so that it is empty
pub record IsGivenBack (old : InputContents) (tallies : List RejectedInput) (new : InputContents) : Type 0 where
  pub limited : new.limit ≡ old.limit
  pub as_many : length new.texts ≡ length old.texts
  pub each : (k : ℕ) (none : RejectedInput) → k < length old.texts → get_or new.texts k [] ≡ (if has_faulty (get_or tallies k none) then get_or old.texts k [] else [])

-- the bytes are the text of the table that some run of this input left, and these are the run's tallies
pub record IsQueryOutput (asked : RunContents) (text_of : List Route → List ℕ) (bytes : List ℕ) (tallies : List RejectedInput) : Type 0 where
  pub table : List Route
  pub leaves : LeavesTable asked table tallies
  pub shown : bytes ≡ text_of table

-- the rows that a question asks about, and the tally of its text of addresses; a question about routes has neither
abbrev pub AsksAbout : Question → List AddressRow → List RejectedInput → Type 0
AsksAbout (ask.Best addresses) rows tallies = (faulty : FaultyLines) × SaysRows addresses.now rows faulty × (tallies ≡ faulty_tally faulty ∷ [])
AsksAbout (ask.All addresses) rows tallies = (faulty : FaultyLines) × SaysRows addresses.now rows faulty × (tallies ≡ faulty_tally faulty ∷ [])
AsksAbout (ask.Routes selection) rows tallies = (rows ≡ []) × (tallies ≡ [])
AsksAbout (ask.RoutesAndTotal selection) rows tallies = (rows ≡ []) × (tallies ≡ [])
AsksAbout (ask.Counts selection) rows tallies = (rows ≡ []) × (tallies ≡ [])

-- the bytes are the answer to the question, in the style, from the table that some run of this input left. The tallies are
-- the run's and, last, that of the question's text of addresses, if it has addresses
pub record IsAnswer (asked : RunContents) (style : StyleContents) (question : Question) (bytes : List ℕ) (given : RunSummary) : Type 0 where
  pub rows : List AddressRow
  pub others : List RejectedInput
  pub asks : AsksAbout question rows others
  pub tallies : List RejectedInput
  pub shown : IsQueryOutput asked (question_text style question rows) bytes tallies
  pub tallied : given.tallies.items ≡ tallies ++ others
  pub is_status : given.status ≡ tallies_status given.tallies.items
