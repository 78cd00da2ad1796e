-- A tally that grows line by line: the number of faulty lines and the first of them, the effect of one more line, and a bound
-- on the counts.
use Rattle.std.proofs.Common.{◌≡◌, ℕ, ◌+◌, Bool, Option, Some, None, true, false, List, [], ◌∷◌, length, map, refl, sym, ap, ◌∙◌, arith, ◌<◌, ◌≤◌, ◌++◌}
use Rattle.std.specs.Prelude.{count_by, cond, nat_lt}
use Rattle.std.specs.List.{filter}
use Rattle.std.proofs.lemmas.List.{map-append, length-map}
use Rattle.std.proofs.lemmas.List.Sums.{sum_by-cons, sum_by-append, count_by-le-length, length-filter}
use Rattle.std.proofs.lemmas.List.Elements.{filter_map-append, filter-append}
use Rattle.rt_feed.specs.declared.parse.LineFault.{LineFault}
use Rattle.rt_feed.specs.declared.faulty.FaultyLines.{FaultyLines}
use Rattle.rt_feed.specs.declared.report.Line.{Line}
use Rattle.rt_feed.specs.declared.report.Answer.{Answer}
use Rattle.rt_feed.specs.Addresses.{faulty_lines}
use Rattle.rt_feed.specs.Reports.{is_fault, is_refusal, has_fault}
use Rattle.rt_run.specs.TableText.{was_full, was_existing, was_missing, fault_at, faults_of, lines_where, rejected_lines, tally_of}
use Rattle.rt_run.proofs.Lists.{counts_some}
use Rattle.rt_feed.specs.Lines.{LineOutcome, skipped, report_lines}
use Rattle.rt_run.specs.declared.tallies.RejectedInput.{RejectedInput}
use Rattle.rt_run.specs.declared.tallies.RejectedLines.{RejectedLines}
use Rattle.rt_run.specs.inside.Runs.{IsBelow}

-- faulty lines with one more before them, if there is one
abbrev pub with_fault : Option (ℕ × LineFault) → FaultyLines → FaultyLines
with_fault None faulty = faulty
with_fault (Some one) faulty = record { count = 1 + faulty.count; first = Some one }

-- the number of faulty lines, and the first of them
one_more : (one : ℕ × LineFault) (faults : List (ℕ × LineFault)) → faulty_lines (one ∷ faults) ≡ with_fault (Some one) (faulty_lines faults)
one_more one faults = grind arith

pub faults-line : (number : ℕ) (answer : Answer) (report : List Line)
    → faulty_lines (faults_of (record { number = number; answer = answer } ∷ report)) ≡ with_fault (fault_at number answer) (faulty_lines (faults_of report))
faults-line number answer report = grind (arith, one_more)

counted-line : (number : ℕ) (answer : Answer) (faulty : FaultyLines)
    → cond (is_fault answer) 1 0 + faulty.count ≡ (with_fault (fault_at number answer) faulty).count
counted-line number answer faulty = grind arith

-- the number of faulty lines is the number of a report's lines that are faulty
pub counted : (report : List Line) → count_by (λ (line : Line). is_fault line.answer) report ≡ (faulty_lines (faults_of report)).count
counted [] = refl
counted (line ∷ report) =
    rw (sum_by-cons (λ (line : Line). cond (is_fault line.answer) 1 0) line report, counted report, faults-line line.number line.answer report)
    (counted-line line.number line.answer (faulty_lines (faults_of report)))

-- there are faulty lines if the report has a fault
pub some_faulty : (report : List Line) → has_fault report ≡ nat_lt 0 (faulty_lines (faults_of report)).count
some_faulty report = sym (counts_some (λ (line : Line). is_fault line.answer) report) ∙ ap (λ n. nat_lt 0 n) (counted report)

-- rejected lines with one more before them, if there is one
abbrev pub with_rejected : Bool → ℕ → RejectedLines → RejectedLines
with_rejected false number lines = lines
with_rejected true number lines = record { count = 1 + lines.count; first = Some number }

-- the number of rejected lines, and the first of them
rejected-count : (lines : List ℕ) → (rejected_lines lines).count ≡ length lines
rejected-count lines = grind arith

one_more_rejected : (number : ℕ) (lines : List ℕ) → rejected_lines (number ∷ lines) ≡ with_rejected true number (rejected_lines lines)
one_more_rejected number lines = grind (arith, rejected-count)

rejected-cond : (such : Bool) (line : Line) (others : List Line)
    → rejected_lines (map (λ (line : Line). line.number) (cond such (line ∷ others) others))
    ≡ with_rejected such line.number (rejected_lines (map (λ (line : Line). line.number) others))
rejected-cond false line others = refl
rejected-cond true line others = one_more_rejected line.number (map (λ (line : Line). line.number) others)

pub rejected-line : (is_such : Answer → Bool) (number : ℕ) (answer : Answer) (report : List Line)
    → rejected_lines (lines_where is_such (record { number = number; answer = answer } ∷ report))
    ≡ with_rejected (is_such answer) number (rejected_lines (lines_where is_such report))
rejected-line is_such number answer report =
    rejected-cond (is_such answer) (record { number = number; answer = answer }) (filter (λ (line : Line). is_such line.answer) report)

-- at most as many lines are of a kind as the report has
lines-few : (is_such : Answer → Bool) (report : List Line) → (rejected_lines (lines_where is_such report)).count ≤ length report
lines-few is_such report =
    let such = λ (line : Line). is_such line.answer in
    omega (
      arith,
      rejected-count (lines_where is_such report),
      length-map (filter such report) (λ (line : Line). line.number),
      length-filter such report,
      count_by-le-length {X = Line} such report,
    )

lines_where-append : (is_such : Answer → Bool) (report more : List Line) → lines_where is_such (report ++ more) ≡ lines_where is_such report ++ lines_where is_such more
lines_where-append is_such report more =
    let such = λ (line : Line). is_such line.answer in
    ap (map (λ (line : Line). line.number)) (filter-append such report more) ∙ map-append (λ (line : Line). line.number) (filter such report) (filter such more)

-- the tally of a report with more lines
pub tally_more : (report more : List Line) → tally_of (report ++ more) ≡ record {
  faulty = faulty_lines (faults_of report ++ faults_of more);
  full = rejected_lines (lines_where was_full report ++ lines_where was_full more);
  existing = rejected_lines (lines_where was_existing report ++ lines_where was_existing more);
  missing = rejected_lines (lines_where was_missing report ++ lines_where was_missing more);
  refused = (tally_of report).refused + (tally_of more).refused;
}
tally_more report more =
    let refused = sum_by-append (λ (line : Line). cond (is_refusal line.answer) 1 0) report more in
    let faults = filter_map-append (λ (line : Line). fault_at line.number line.answer) report more in
    let lines = λ (is_such : Answer → Bool). lines_where-append is_such report more in
    rw (faults, lines was_full, lines was_existing, lines was_missing, refused) refl

-- a report has at most as many lines as its text
report-few : (number : ℕ) (outcomes : List LineOutcome) → length (report_lines number outcomes) ≤ length outcomes
report-few number [] = omega arith
report-few number (skipped ∷ outcomes) = omega (arith, report-few (number + 1) outcomes)
report-few number (outcome ∷ outcomes) = omega (arith, report-few (number + 1) outcomes)

pub lines_below : (outcomes : List LineOutcome) (number : ℕ) (tally : RejectedInput) → tally ≡ tally_of (report_lines 1 outcomes) → length outcomes < number
    → IsBelow number tally
lines_below outcomes number tally is below =
    let lines = λ (is_such : Answer → Bool). lines-few is_such (report_lines 1 outcomes) in
    rw is (omega (arith, below, report-few 1 outcomes, counted (report_lines 1 outcomes), lines was_full, lines was_existing, lines was_missing, count_by-le-length {X = Line}))
