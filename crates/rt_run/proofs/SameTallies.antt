-- Two runs of the same texts and limit have the same tallies, and the same report lines but for the replies to `lookup` and
-- `dump`: these depend on only the feed's own commands.
use Rattle.std.proofs.Common.{◌≡◌, ℕ, ◌+◌, false, inl, inr, List, [], ◌∷◌, ◌++◌, Bool, map, refl, sym, ap, subst, ◌∙◌, arith, append_assoc}
use Rattle.std.specs.Prelude.{cond}
use Rattle.std.specs.List.{filter}
use Rattle.std.proofs.lemmas.Bool.{cases_Bool, or_parts}
use Rattle.std.proofs.lemmas.List.{map_push}
use Rattle.std.proofs.lemmas.List.Sums.{sum_by-cons}
use Rattle.rt_rib.specs.declared.routes.Route.{Route}
use Rattle.rt_rib.specs.declared.commands.Cmd.{Cmd}
use Rattle.rt_rib.specs.declared.commands.Reply.TheVariants.{NoRoute}
use Rattle.rt_rib.specs.declared.commands.Entry.{Entry}
use Rattle.rt_rib.specs.Sequential.{reply_of, IsLawfulJournal}
use Rattle.rt_rib.specs.Laws.{FeedsStandAlone, is_own}
use Rattle.rt_shared.specs.declared.outcome.Outcome.{Outcome}
use Rattle.rt_shared.specs.Laws.{EntriesOfVisits}
use Rattle.rt_feed.specs.declared.report.Line.{Line}
use Rattle.rt_feed.specs.declared.report.Answer.{Answer}
use Rattle.rt_feed.specs.declared.report.Answer.TheVariants.{Did, Fault}
use Rattle.rt_feed.specs.Laws.{TextHasOneReading}
use Rattle.rt_feed.specs.Lines.{LineOutcome, skipped, faulty, asked, reading, command_answer, report_lines, commands_of}
use Rattle.rt_feed.specs.Reports.{is_refusal, has_refusal}
use Rattle.rt_run.specs.declared.tallies.RejectedInput.{RejectedInput}
use Rattle.rt_run.specs.RunText.{ExplainsFrom, reports_of, some_refused}
use Rattle.rt_run.specs.TableText.{was_full, was_existing, was_missing, fault_at, tally_of}
use Rattle.rt_run.specs.SameTable.{HaveSameTallies, HaveSameLines, is_own_answer, is_own_line}
use Rattle.rt_run.proofs.CountedLines.{with_fault, with_rejected, faults-line, rejected-line}
use Rattle.rt_run.proofs.SameTables.{commands, alone-commands, IsAnsweredFrom, AreAnsweredFrom, answered_from, by_status}

-- a tally with one line more in front
abbrev pub with_line : ℕ → Answer → RejectedInput → RejectedInput
with_line number answer tally = record {
  faulty = with_fault (fault_at number answer) tally.faulty;
  full = with_rejected (was_full answer) number tally.full;
  existing = with_rejected (was_existing answer) number tally.existing;
  missing = with_rejected (was_missing answer) number tally.missing;
  refused = cond (is_refusal answer) 1 0 + tally.refused;
}

pub tally-line : (number : ℕ) (answer : Answer) (report : List Line)
    → tally_of (record { number = number; answer = answer } ∷ report) ≡ with_line number answer (tally_of report)
tally-line number answer report =
    let refused = sum_by-cons (λ (line : Line). cond (is_refusal line.answer) 1 0) (record { number = number; answer = answer }) report in
    let rejected = λ (is_such : Answer → Bool). rejected-line is_such number answer report in
    rw (faults-line number answer report, rejected was_full, rejected was_existing, rejected was_missing, refused) refl

-- the results of `lookup` and `dump` aren't counted
pub uncounted : (limit feed number : ℕ) (tally : RejectedInput) (table : List Route) (cmd : Cmd) → is_own cmd ≡ false
    → with_line number (Did (reply_of limit table feed cmd)) tally ≡ with_line number (Did NoRoute) tally
unfolding reply_of
uncounted limit feed number tally table cmd other = grind arith

-- a line of a report, unless it is the reply to a `lookup` or a `dump`, before others
abbrev with_own : ℕ → Answer → List Line → List Line
with_own number answer lines = cond (is_own_answer answer) (record { number = number; answer = answer } ∷ lines) lines

-- the replies to `lookup` and `dump` aren't such lines
unlisted : (limit feed number : ℕ) (lines : List Line) (table : List Route) (cmd : Cmd) → is_own cmd ≡ false
    → with_own number (Did (reply_of limit table feed cmd)) lines ≡ with_own number (Did NoRoute) lines
unfolding reply_of
unlisted limit feed number lines table cmd other = grind arith

-- one command more
commands-more : (before before' : List (Cmd × Outcome)) (cmd cmd' : Cmd) (is is' : Outcome) → commands before ≡ commands before' → cmd ≡ cmd'
    → commands (before ++ (cmd, is) ∷ []) ≡ commands (before' ++ (cmd', is') ∷ [])
commands-more before before' cmd cmd' is is' same one = simp (map_push, same, one)

-- a value of a report, which a line in front changes by only its number and answer, and in the same way for every reply to a
-- `lookup` or a `dump`
module _ {T : Type 0} (value_of : List Line → T) (with_one : ℕ → Answer → T → T)
    (one_line : (number : ℕ) (answer : Answer) (report : List Line) → value_of (record { number = number; answer = answer } ∷ report) ≡ with_one number answer (value_of report))
    (others_alike : (limit feed number : ℕ) (value : T) (table : List Route) (cmd : Cmd) → is_own cmd ≡ false
    → with_one number (Did (reply_of limit table feed cmd)) value ≡ with_one number (Did NoRoute) value) where
  -- a command changes it in the same way whenever the feed's earlier commands are the same
  counts_alike : (limit feed number : ℕ) (value : T) (before before' : List (Cmd × Outcome)) (cmd : Cmd) (is is' : Outcome)
      → commands before ≡ commands before' → IsAnsweredFrom limit feed before cmd is → IsAnsweredFrom limit feed before' cmd is'
      → with_one number (command_answer is) value ≡ with_one number (command_answer is') value
  counts_alike limit feed number value before before' cmd is is' same from from' =
      let counted : Outcome → T = λ o. with_one number (command_answer o) value in
      elim (cases_Bool (is_own cmd)) [
        | inl own ↦
            let outcomes : is ≡ is' = cc (from.reply, from'.reply, from.alone own, from'.alone own, alone-commands limit feed before before' same) in
            ap counted outcomes
        | inr other ↦
            let uncounted_from = λ (table : List Route). others_alike limit feed number value table cmd other in
            ap counted from.reply ∙ (uncounted_from from.table ∙ (sym (uncounted_from from'.table) ∙ ap counted (sym from'.reply)))
      ]

  -- the rest of a text's lines, in two runs
  module _ (limit feed : ℕ) (all all' : List (Cmd × Outcome)) (from : AreAnsweredFrom limit feed all) (from' : AreAnsweredFrom limit feed all') where
    same_value : (number : ℕ) (before before' : List (Cmd × Outcome)) (lines lines' : List LineOutcome)
        → all ≡ before ++ commands_of lines → all' ≡ before' ++ commands_of lines' → commands before ≡ commands before' → map reading lines ≡ map reading lines'
        → value_of (report_lines number lines) ≡ value_of (report_lines number lines')
    same_value number before before' [] [] is is' same read = refl
    same_value number before before' (skipped ∷ lines) (skipped ∷ lines') is is' same read =
        let rest : map reading lines ≡ map reading lines' = cc in
        same_value (number + 1) before before' lines lines' is is' same rest
    same_value number before before' (faulty fault ∷ lines) (faulty other ∷ lines') is is' same read =
        let rest : map reading lines ≡ map reading lines' = cc in
        let one : fault ≡ other = cc in
        let later = same_value (number + 1) before before' lines lines' is is' same rest in
        cc (one_line number (Fault fault) (report_lines (number + 1) lines), one_line number (Fault other) (report_lines (number + 1) lines'), later, one)
    same_value number before before' (asked cmd o ∷ lines) (asked cmd' o' ∷ lines') is is' same read =
        let rest : map reading lines ≡ map reading lines' = cc in
        let one : cmd ≡ cmd' = cc in
        let here = from before (commands_of lines) cmd o is in
        let there = subst (λ c. IsAnsweredFrom limit feed before' c o') (sym one) (from' before' (commands_of lines') cmd' o' is') in
        one_line number (command_answer o) (report_lines (number + 1) lines)
        ∙ (ap (with_one number (command_answer o))
        (same_value (number + 1) (before ++ (cmd, o) ∷ []) (before' ++ (cmd', o') ∷ []) lines lines'
        (is ∙ sym (append_assoc before ((cmd, o) ∷ []) (commands_of lines))) (is' ∙ sym (append_assoc before' ((cmd', o') ∷ []) (commands_of lines')))
        (commands-more before before' cmd cmd' o o' same one) rest)
        ∙ (counts_alike limit feed number (value_of (report_lines (number + 1) lines')) before before' cmd o o' same here there
        ∙ sym (one_line number (command_answer o') (report_lines (number + 1) lines'))))
    same_value number before before' lines lines' is is' same read = absurd (cc)

  -- the lines of all texts, in two runs
  module _ (alone : FeedsStandAlone) (law : EntriesOfVisits) (once : TextHasOneReading) (limit batch batch' : ℕ) (journal journal' : List Entry)
      (lawful : IsLawfulJournal limit journal) (lawful' : IsLawfulJournal limit journal') where
    all_same : (feed : ℕ) (texts : List (List ℕ)) (outcomes outcomes' : List (List LineOutcome))
        → ExplainsFrom batch feed journal texts outcomes → ExplainsFrom batch' feed journal' texts outcomes'
        → some_refused outcomes ≡ false → some_refused outcomes' ≡ false → map value_of (reports_of outcomes) ≡ map value_of (reports_of outcomes')
    all_same feed [] [] [] is is' none none' = refl
    all_same feed (text ∷ texts) (lines ∷ outcomes) (lines' ∷ outcomes') is is' none none' =
        let parts = or_parts (has_refusal (report_lines 1 lines)) (some_refused outcomes) none in
        let parts' = or_parts (has_refusal (report_lines 1 lines')) (some_refused outcomes') none' in
        let first : value_of (report_lines 1 lines) ≡ value_of (report_lines 1 lines') =
        same_value limit feed (commands_of lines) (commands_of lines') (answered_from alone law limit batch feed journal text lines is.0 parts.0 lawful)
        (answered_from alone law limit batch' feed journal' text lines' is'.0 parts'.0 lawful') 1 [] [] lines lines' refl refl refl
        (once text lines lines' is.0.becomes is'.0.becomes) in
        cc (first, all_same (feed + 1) texts outcomes outcomes' is.1 is'.1 parts.1 parts'.1)
    all_same feed texts outcomes outcomes' is is' none none' = search

pub same_tallies : FeedsStandAlone → EntriesOfVisits → TextHasOneReading → HaveSameTallies
same_tallies alone law once texts limit batch batch' journal journal' outcomes outcomes' history history' =
    all_same tally_of with_line tally-line uncounted alone law once limit batch batch' journal journal' history.lawful history'.lawful 1 texts outcomes outcomes'
    history.explained history'.explained

pub same_lines : FeedsStandAlone → EntriesOfVisits → TextHasOneReading → HaveSameLines
same_lines alone law once texts limit batch batch' bytes bytes' status status' run run' not not' =
    all_same (filter is_own_line) with_own (λ number answer report. refl) unlisted alone law once limit batch batch' run.journal run'.journal
    run.history.lawful run'.history.lawful 1 texts run.outcomes run'.outcomes run.history.explained run'.history.explained
    (by_status _ _ status run.is_status not) (by_status _ _ status' run'.is_status not')
