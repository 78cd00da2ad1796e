-- The table of a run, and the replies on a feed's own routes, follow from each feed's commands by themselves.
use Rattle.std.proofs.Common.{◌≡◌, ◌≢◌, ℕ, zero, suc, ◌+◌, ◌-◌, ◌<◌, ◌≤◌, ◌⊎◌, inl, inr, true, false, Option, Some, None, Ok, Err, List, [], ◌∷◌, ◌++◌, Bool, All, length}
use Rattle.std.proofs.Common.{map, refl, sym, ap, subst, ◌∙◌, arith, eqb-true}
use Rattle.std.specs.Prelude.{fold, nat_lt}
use Rattle.std.specs.declared.result.Result.{Result}
use Rattle.std.specs.List.{slice_get, list_any, flat_map, Contains}
use Rattle.std.proofs.lemmas.Bool.{eq-eqb, false≢true, or_parts}
use Rattle.std.specs.Bool.{◌==◌}
use Rattle.std.proofs.lemmas.List.{map-append}
use Rattle.std.proofs.lemmas.List.Elements.{All-head, All-filter, filter_passes}
use Rattle.std.proofs.lemmas.List.Folds.{fold-map}
use Rattle.std.proofs.lemmas.Option.{slice_get_within, same_Some}
use Rattle.rt_rib.specs.declared.routes.Route.{Route}
use Rattle.rt_rib.specs.declared.commands.Cmd.{Cmd}
use Rattle.rt_rib.specs.declared.commands.Cmd.TheVariants.{Dump}
use Rattle.rt_rib.specs.declared.commands.Reply.{Reply}
use Rattle.rt_rib.specs.declared.commands.Entry.{Entry}
use Rattle.rt_rib.specs.Sequential.{reply_of, table_after, IsLawfulJournal, table_of_journal}
use Rattle.rt_rib.proofs.Sets.{Contains-none, filter-keeps, filter-from}
use Rattle.rt_rib.specs.Laws.{FeedsStandAlone, TableByEntry, OneTableOfSet, is_own, feed_entries, feed_routes}
use Rattle.rt_shared.specs.declared.outcome.Outcome.{Outcome}
use Rattle.rt_shared.specs.declared.outcome.Outcome.TheVariants as outcome
use Rattle.rt_shared.specs.Laws.{EntriesOfVisits}
use Rattle.rt_feed.specs.declared.parse.LineFault.{LineFault}
use Rattle.rt_feed.specs.Laws.{TextHasOneReading}
use Rattle.rt_feed.specs.declared.report.Line.{Line}
use Rattle.rt_feed.specs.Lines.{LineOutcome, skipped, faulty, asked, reading, TextYields, commands_of, report_lines}
use Rattle.rt_feed.specs.Reports.{is_refusal, has_refusal, has_fault}
use Rattle.rt_shared.specs.JournalVisits.{AnsweredBatch, visit_of, entries}
use Rattle.rt_feed.specs.Visits.{concatenated}
use Rattle.rt_print.specs.Routes.{table_text}
use Rattle.rt_run.specs.declared.tallies.RejectedInput.{RejectedInput}
use Rattle.rt_run.specs.RunText.{RunContents, Explains, ExplainsFrom, reports_of, reports_text, some_refused, status_where, reports_status}
use Rattle.rt_run.specs.TableText.{tally_of, has_refused, NoneRefused, LeavesTable}
use Rattle.rt_run.specs.SameTable.{table_alone, IsUnion, HaveSameInput}
use Rattle.rt_run.specs.SameTable.{LeavesUnion, AnswersAlone, HaveSameTallies, HaveOneUnion, EndsInUnion, EndInOneTable, ShowsUnion, ShowOneTable}
use Rattle.rt_run.proofs.Lists.{counts_some, split-joined, map_split, filter_split}
use Rattle.rt_run.proofs.CountedLines.{some_faulty}
use Rattle.rt_run.proofs.InTurn.{entries-append}

-- the command of a line follows from the line's text
abbrev asked_in : Result (Option Cmd) LineFault → List Cmd
asked_in (Ok (Some cmd)) = cmd ∷ []
asked_in (Ok None) = []
asked_in (Err fault) = []

-- the commands, whatever their outcomes
abbrev pub commands : List (Cmd × Outcome) → List Cmd
commands all = map (λ one. one.0) all

commands-reading : (lines : List LineOutcome) → commands (commands_of lines) ≡ flat_map asked_in (map reading lines)
commands-reading [] = refl
commands-reading (skipped ∷ lines) = commands-reading lines
commands-reading (faulty fault ∷ lines) = commands-reading lines
commands-reading (asked cmd outcome ∷ lines) = ap (λ cmds. cmd ∷ cmds) (commands-reading lines)

-- hence a text has the same commands, whatever their outcomes
one_asking : TextHasOneReading → (text : List ℕ) (lines others : List LineOutcome) → TextYields text lines [] → TextYields text others []
    → commands (commands_of lines) ≡ commands (commands_of others)
one_asking once text lines others is other =
    commands-reading lines ∙ (ap (flat_map asked_in) (once text lines others is other) ∙ sym (commands-reading others))

-- the set that they leave by themselves depends on only the commands
pub alone-commands : (limit feed : ℕ) (all others : List (Cmd × Outcome))
    → commands all ≡ commands others → table_alone limit feed all ≡ table_alone limit feed others
unfolding table_alone
alone-commands limit feed all others same =
    let step : List Route → Cmd → List Route = λ table cmd. table_after limit table feed cmd in
    let by_commands = fold-map step (λ (one : Cmd × Outcome). one.0) [] in sym (by_commands all) ∙ (ap (fold step []) same ∙ by_commands others)

-- the entries of all pieces are the entries of all commands, one after another
pub entries-pieces : (feed : ℕ) (pieces : List (List (Cmd × Outcome)))
    → flat_map (λ visit. visit) (map (entries feed) (map visit_of pieces)) ≡ entries feed (visit_of (concatenated pieces))
entries-pieces feed [] = refl
entries-pieces feed (piece ∷ pieces) =
    ap (λ es. entries feed (visit_of piece) ++ es) (entries-pieces feed pieces) ∙ sym (entries-append feed piece (concatenated pieces))

-- a command that has a reply
abbrev pub did : Cmd × Reply → Cmd × Outcome
did p = (p.0, outcome.Did p.1)

-- a feed's entries leave the same set as their commands
pub table-entries : (limit feed : ℕ) (visit : AnsweredBatch) → table_of_journal limit (entries feed visit) ≡ table_alone limit feed (map did visit)
unfolding table_of_journal table_alone
table-entries limit feed visit =
    fold-map (λ table (e : Entry). table_after limit table e.feed e.cmd) (λ (p : Cmd × Reply). record { feed = feed; cmd = p.0; reply = p.1 }) [] visit
    ∙ sym (fold-map (λ table (one : Cmd × Outcome). table_after limit table feed one.0) did [] visit)

-- if no command was refused, all have a reply
all_did : (number : ℕ) (lines : List LineOutcome) → has_refusal (report_lines number lines) ≡ false → commands_of lines ≡ map did (visit_of (commands_of lines))
all_did number [] none = refl
all_did number (skipped ∷ lines) none = all_did (number + 1) lines none
all_did number (faulty fault ∷ lines) none = all_did (number + 1) lines none
all_did number (asked cmd (outcome.Did reply) ∷ lines) none = ap (λ rest. (cmd, outcome.Did reply) ∷ rest) (all_did (number + 1) lines none)
all_did number (asked cmd outcome.Refused ∷ lines) none = absurd (false≢true (sym none))

-- a command was answered from some table; if it concerns only its feed's own routes, it was answered as from the set that
-- the feed's earlier commands leave by themselves
pub record IsAnsweredFrom (limit feed : ℕ) (earlier : List (Cmd × Outcome)) (cmd : Cmd) (is : Outcome) : Type 0 where
  pub table : List Route
  pub reply : is ≡ outcome.Did (reply_of limit table feed cmd)
  pub alone : is_own cmd ≡ true → reply_of limit table feed cmd ≡ reply_of limit (table_alone limit feed earlier) feed cmd

-- each command of the feed was answered this way
abbrev pub AreAnsweredFrom : ℕ → ℕ → List (Cmd × Outcome) → Type 0
AreAnsweredFrom limit feed all =
    (earlier later : List (Cmd × Outcome)) (cmd : Cmd) (is : Outcome) → all ≡ earlier ++ (cmd, is) ∷ later → IsAnsweredFrom limit feed earlier cmd is

module _ (alone : FeedsStandAlone) (law : EntriesOfVisits) (limit batch feed : ℕ) (journal : List Entry) (text : List ℕ) (lines : List LineOutcome)
    (explains : Explains batch feed journal text lines) (none : has_refusal (report_lines 1 lines) ≡ false) where
  -- the journal's entries of the feed are those of its answered commands
  entries_explained : feed_entries feed journal ≡ entries feed (visit_of (commands_of lines))
  entries_explained =
      law feed _ journal explains.uncut
      ∙ (entries-pieces feed explains.pieces ∙ ap (λ cmds. entries feed (visit_of cmds)) (split-joined (commands_of lines) explains.pieces explains.cut))

  pub answered_from : IsLawfulJournal limit journal → AreAnsweredFrom limit feed (commands_of lines)
  answered_from lawful earlier later cmd is split =
      let visit = visit_of (commands_of lines) in
      let (front, back, p, split', before, had) = map_split did visit earlier later (cmd, is) (sym (all_did 1 lines none) ∙ split) in
      let entry : Cmd × Reply → Entry = λ q. record { feed = feed; cmd = q.0; reply = q.1 } in
      let parts : feed_entries feed journal ≡ entries feed front ++ entry p ∷ entries feed back =
      entries_explained ∙ (ap (entries feed) split' ∙ map-append entry front (p ∷ back)) in
      let (ahead, behind, split'', same) = filter_split (λ e. e.feed == feed) journal (entries feed front) (entries feed back) (entry p) parts in
      let command : p.0 ≡ cmd = ap (λ (one : Cmd × Outcome). one.0) (sym had) in
      let same_table : table_of_journal limit (feed_entries feed ahead) ≡ table_alone limit feed earlier =
      ap (table_of_journal limit) same ∙ (table-entries limit feed front ∙ ap (table_alone limit feed) (sym before)) in
      record {
        table = table_of_journal limit ahead;
        reply = ap (λ (one : Cmd × Outcome). one.1) had
            ∙ ap outcome.Did (lawful.answered ahead (entry p) behind split'' ∙ ap (λ c. reply_of limit (table_of_journal limit ahead) feed c) command);
        alone = λ own. (alone limit feed ahead cmd).1 own ∙ ap (λ table. reply_of limit table feed cmd) same_table;
      }

  -- a feed's routes in the table are those that its commands leave by themselves
  routes_alone : feed_routes feed (table_of_journal limit journal) ≡ table_alone limit feed (commands_of lines)
  routes_alone =
      (alone limit feed journal Dump).0 ∙ (ap (table_of_journal limit) entries_explained
      ∙ (table-entries limit feed (visit_of (commands_of lines)) ∙ ap (table_alone limit feed) (sym (all_did 1 lines none))))

-- the k-th text and the outcomes of its lines, which the journal explains as this feed's, and none of which was refused
abbrev IsOfFeed : ℕ → ℕ → ℕ → List Entry → List (List ℕ) → List (List LineOutcome) → Type 0
IsOfFeed batch feed k journal texts outcomes =
    (text : List ℕ) × (lines : List LineOutcome) × (slice_get texts k ≡ Some text) × (slice_get outcomes k ≡ Some lines)
    × Explains batch feed journal text lines × (has_refusal (report_lines 1 lines) ≡ false)

of_feed : (batch first k feed : ℕ) (journal : List Entry) (texts : List (List ℕ)) (outcomes : List (List LineOutcome))
    → feed ≡ first + k → ExplainsFrom batch first journal texts outcomes → some_refused outcomes ≡ false → (k < length texts) ⊎ (k < length outcomes)
    → IsOfFeed batch feed k journal texts outcomes
of_feed batch first k feed journal [] [] number all none here = absurd (omega arith)
of_feed batch first zero feed journal (text ∷ texts) (lines ∷ outcomes) number all none here =
    let this : first ≡ feed = omega arith in
    (text, lines, refl, refl, subst (λ n. Explains batch n journal text lines) this all.0, (or_parts _ (some_refused outcomes) none).0)
of_feed batch first (suc k) feed journal (text ∷ texts) (lines ∷ outcomes) number all none here =
    of_feed batch (first + 1) k feed journal texts outcomes (omega arith) all.1 (or_parts _ (some_refused outcomes) none).1
    (elim here [ inl of_texts ↦ inl (omega arith) | inr of_lines ↦ inr (omega arith) ])
of_feed batch first k feed journal texts outcomes number all none here = absurd all

-- if the status isn't 5, no command was refused
pub by_status : (refused left_out : Bool) (status : ℕ) → status ≡ status_where refused left_out → status ≢ 5 → refused ≡ false
by_status refused left_out status e not = grind arith

-- a tally counts the refused commands and rejected input of its report
module _ (tells : List Line → Bool) (counts : RejectedInput → Bool) (same : (report : List Line) → tells report ≡ counts (tally_of report)) where
  some-tallies : (reports : List (List Line)) → list_any tells reports ≡ list_any counts (map tally_of reports)
  some-tallies [] = refl
  some-tallies (report ∷ reports) = rw (same report, some-tallies reports)

refused-tallies : (reports : List (List Line)) → list_any has_refusal reports ≡ list_any has_refused (map tally_of reports)
refused-tallies = some-tallies has_refusal has_refused (λ report. sym (counts_some (λ (line : Line). is_refusal line.answer) report))

abbrev has_faulty : RejectedInput → Bool
has_faulty tally = nat_lt 0 tally.faulty.count

-- hence the status of reports follows from their tallies
abbrev by_tallies : List RejectedInput → ℕ
by_tallies tallies = status_where (list_any has_refused tallies) (list_any has_faulty tallies)

status-tallies : (reports : List (List Line)) → reports_status reports ≡ by_tallies (map tally_of reports)
status-tallies reports = rw (refused-tallies reports, some-tallies has_fault has_faulty some_faulty reports) refl

-- if by the tallies no command was refused, then none was
none_refused : (outcomes : List (List LineOutcome)) (tallies : List RejectedInput) → tallies ≡ map tally_of (reports_of outcomes) → NoneRefused tallies
    → some_refused outcomes ≡ false
none_refused outcomes tallies tallied none = refused-tallies (reports_of outcomes) ∙ (ap (list_any has_refused) (sym tallied) ∙ none)

-- a feed that has an entry has a text
pub has_text : (journal : List Entry) (n feed : ℕ) → All (λ e. (1 ≤ e.feed) × (e.feed ≤ n)) journal → (own : List Entry) → feed_entries feed journal ≡ own
    → (own ≡ []) ⊎ ((1 ≤ feed) × (feed ≤ n))
has_text journal n feed all [] is = inl refl
has_text journal n feed all (e ∷ own) is =
    let Mine : Entry → Type 0 = λ x. (x.feed == feed) ≡ true in
    let Within : Entry → Type 0 = λ x. (1 ≤ x.feed) × (x.feed ≤ n) in
    let mine = All-head Mine e own (subst (All Mine) is (filter_passes (λ x. x.feed == feed) journal)) in
    let within = All-head Within e own (subst (All Within) is (All-filter (λ x. x.feed == feed) Within journal all)) in
    inr (subst (λ f. (1 ≤ f) × (f ≤ n)) (eqb-true e.feed feed mine) within)

-- a journal leaves the union of the sets that each text leaves by itself
pub leaves_union : FeedsStandAlone → TableByEntry → EntriesOfVisits → TextHasOneReading → LeavesUnion
leaves_union alone by_entry law once texts limit batch journal outcomes history none =
    let table = table_of_journal limit journal in
    let text_at = λ (k : ℕ) (within : k < length texts). of_feed batch 1 k (k + 1) journal texts outcomes (omega arith) history.explained none (inl within) in
    let routes = λ (k : ℕ). routes_alone alone law limit batch (k + 1) journal in
    record {
      table = by_entry.table limit journal;
      contains = λ r. (
        (λ c.
            let own : Contains (feed_routes r.feed table) r = filter-keeps (λ s. s.feed == r.feed) table r c (eq-eqb r.feed r.feed refl) in
            elim (has_text journal (length texts) r.feed history.no_other (feed_entries r.feed journal) refl) [
              | inl empty ↦
                  absurd (Contains-none r
                  (subst (λ l. Contains l r) ((alone limit r.feed journal Dump).0 ∙ (ap (table_of_journal limit) empty ∙ by_entry.empty limit)) own))
              | inr within ↦
                  let k = r.feed - 1 in
                  let number : r.feed ≡ k + 1 = omega arith in
                  let (text, lines, is, stands, explains, kept) = text_at k (omega arith) in
                  let has : Contains (table_alone limit (k + 1) (commands_of lines)) r =
                  subst (λ l. Contains l r) (ap (λ f. feed_routes f table) number ∙ routes k text lines explains kept) own in
                  (k, (text, lines, is, explains.becomes, has))
            ]),
        (λ (k, (text, lines, is, becomes, has)).
            let here = text_at k (slice_get_within texts k text is) in
            let whole : here.0 ≡ text = same_Some _ _ (sym here.2 ∙ is) in
            let same = one_asking once text lines here.1 becomes (rw whole at here.4.becomes) in
            let left = alone-commands limit (k + 1) (commands_of lines) (commands_of here.1) same ∙ sym (routes k here.0 here.1 here.4 here.5) in
            (filter-from (λ s. s.feed == (k + 1)) table r (subst (λ l. Contains l r) left has)).0),
      );
    }

pub ends_in_union : LeavesUnion → EndsInUnion
ends_in_union leaves texts limit batch bytes status run not = (
  table_of_journal limit run.journal,
  leaves texts limit batch run.journal run.outcomes run.history (by_status _ _ status run.is_status not),
  run.printed,
)

-- a set has only one table
pub one_union : OneTableOfSet → HaveOneUnion
one_union one_table texts limit one other here there =
    one_table one other here.table there.table (λ r. (
      (λ c. (there.contains r).1 ((here.contains r).0 c)),
      (λ c. (here.contains r).1 ((there.contains r).0 c)),
    ))

pub own_replies_are_independent : FeedsStandAlone → EntriesOfVisits → AnswersAlone
own_replies_are_independent alone law texts limit batch journal outcomes history none k lines is =
    let within = inr (slice_get_within outcomes k lines is) in
    let here = of_feed batch 1 k (k + 1) journal texts outcomes (omega arith) history.explained none within in
    let same : here.1 ≡ lines = same_Some _ _ (sym here.3 ∙ is) in
    let from = answered_from alone law limit batch (k + 1) journal here.0 here.1 here.4 here.5 history.lawful in
    λ earlier later cmd was split own.
    let one = from earlier later cmd was (ap commands_of same ∙ split) in one.reply ∙ ap outcome.Did (one.alone own)

pub final_table_is_deterministic : EndsInUnion → HaveOneUnion → HaveSameTallies → EndInOneTable
final_table_is_deterministic ends one tallies texts limit batch batch' bytes bytes' status status' run run' not not' =
    let here = ends texts limit batch bytes status run not in
    let there = ends texts limit batch' bytes' status' run' not' in
    let same : there.0 ≡ here.0 = one texts limit there.0 here.0 there.1 here.1 in
    let tallied = tallies texts limit batch batch' run.journal run'.journal run.outcomes run'.outcomes run.history run'.history
    (by_status _ _ status run.is_status not) (by_status _ _ status' run'.is_status not') in (
      cc (run.is_status, run'.is_status, status-tallies (reports_of run.outcomes), status-tallies (reports_of run'.outcomes), tallied),
      here.0,
      here.2,
      there.2 ∙ ap (λ t. reports_text 1 (reports_of run'.outcomes) ++ table_text t) same,
    )

-- a run that left a table left the union
pub left_union : LeavesUnion → (one : RunContents) (table : List Route) (tallies : List RejectedInput) → LeavesTable one table tallies → NoneRefused tallies
    → IsUnion one.texts one.limit table
left_union leaves one table tallies left none =
    subst (IsUnion one.texts one.limit) (sym left.left)
    (leaves one.texts one.limit one.batch left.journal left.outcomes left.history (none_refused left.outcomes tallies left.tallied none))

-- two runs of the same input that ended without a refusal have the same tallies
pub say_the_same : HaveSameTallies → (one one' : RunContents) (table table' : List Route) (tallies tallies' : List RejectedInput) → HaveSameInput one one'
    → LeavesTable one table tallies → LeavesTable one' table' tallies' → NoneRefused tallies → NoneRefused tallies' → tallies ≡ tallies'
say_the_same have_same one one' table table' tallies tallies' same left left' none none' =
    left.tallied
    ∙ (have_same one.texts one.limit one.batch one'.batch left.journal left'.journal left.outcomes left'.outcomes left.history
    (rw (same.0, same.1) left'.history)
    (none_refused left.outcomes tallies left.tallied none) (none_refused left'.outcomes tallies' left'.tallied none') ∙ sym left'.tallied)

pub shows_union : LeavesUnion → ShowsUnion
shows_union leaves one text_of bytes tallies is none = (is.table, left_union leaves one is.table tallies is.leaves none, is.shown)

pub query_output_is_deterministic : ShowsUnion → HaveOneUnion → HaveSameTallies → ShowOneTable
query_output_is_deterministic shows only have_same one one' text_of bytes bytes' tallies tallies' same is is' none none' =
    let here = shows one text_of bytes tallies is none in
    let there = shows one' text_of bytes' tallies' is' none' in
    let union = only one.texts one.limit here.0 there.0 here.1 (rw (same.0, same.1) there.1) in (
      here.2 ∙ (ap text_of union ∙ sym there.2),
      say_the_same have_same one one' is.table is'.table tallies tallies' same is.leaves is'.leaves none none',
    )
