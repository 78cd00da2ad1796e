-- A feed's text by itself: the replies to its own commands, its tally and its routes are those that it has without other feeds.
use Rattle.std.proofs.Common.{◌≡◌, ℕ, zero, suc, ◌+◌, ◌<◌, inl, inr, Ok, Some, List, [], ◌∷◌, ◌++◌, length, map, get_or, refl, sym, ap, subst, ◌∙◌, arith, append_assoc}
use Rattle.std.specs.Bool.{◌==◌}
use Rattle.std.proofs.lemmas.Bool.{cases_Bool}
use Rattle.std.proofs.lemmas.List.{map-append}
use Rattle.rt_rib.specs.declared.routes.Route.{Route}
use Rattle.rt_rib.specs.declared.commands.Cmd.{Cmd}
use Rattle.rt_rib.specs.declared.commands.Cmd.TheVariants.{Dump}
use Rattle.rt_rib.specs.declared.commands.Reply.{Reply}
use Rattle.rt_rib.specs.declared.commands.Entry.{Entry}
use Rattle.rt_rib.specs.Book.{TableState}
use Rattle.rt_rib.specs.Sequential.{reply_of, table_after, table_of_journal, IsLawfulJournal}
use Rattle.rt_rib.specs.Laws.{FeedsStandAlone, is_own, feed_entries, feed_routes}
use Rattle.rt_rib.proofs.Promised.{table_of_journal-push}
use Rattle.rt_shared.specs.declared.outcome.Outcome.TheVariants as outcome
use Rattle.rt_shared.specs.JournalVisits.{AnsweredBatch, visit_of, entries}
use Rattle.rt_shared.specs.Laws.{EntriesOfVisits}
use Rattle.rt_feed.specs.declared.versions.Version.{Version}
use Rattle.rt_feed.specs.declared.versions.Version.TheVariants.{One, Two}
use Rattle.rt_feed.specs.declared.report.Answer.TheVariants as answer
use Rattle.rt_feed.specs.Grammar.{AnswersLine}
use Rattle.rt_feed.specs.Lines.{LineOutcome, skipped, faulty, asked, reading, LinesYield, TextYields, heading, report_lines, commands_of}
use Rattle.rt_run.specs.declared.tallies.RejectedInput.{RejectedInput}
use Rattle.rt_run.specs.RunText.{RunContents, Explains, ExplainsFrom, reports_of}
use Rattle.rt_run.specs.TableText.{tally_of, LeavesTable}
use Rattle.rt_run.specs.inside.Runs.{Continues}
use Rattle.rt_run.proofs.InTurn.{continues-none, continues-did, continues-both}
use Rattle.rt_run.proofs.Lists.{filter_split, split-joined}
use Rattle.rt_run.proofs.SameTables.{commands, did, alone-commands, table-entries, entries-pieces}
use Rattle.rt_run.proofs.SameTallies.{with_line, tally-line, uncounted}
use Rattle.rt_run.proofs.LeftOut.{none_asked}

-- the routes and the limit of a table
abbrev pub state : ℕ → List Route → TableState
state limit routes = record { limit = limit; routes = routes }

-- the entry of a feed's command
abbrev entry_of : ℕ → Cmd × Reply → Entry
entry_of feed p = record { feed = feed; cmd = p.0; reply = p.1 }

-- the lines, each reply replaced by the sequential table's, in these routes and then in those that the earlier commands leave
abbrev pub replied_in : ℕ → ℕ → List Route → List LineOutcome → List LineOutcome
replied_in limit feed table [] = []
replied_in limit feed table (skipped ∷ lines) = skipped ∷ replied_in limit feed table lines
replied_in limit feed table (faulty fault ∷ lines) = faulty fault ∷ replied_in limit feed table lines
replied_in limit feed table (asked cmd (outcome.Did reply) ∷ lines) =
    asked cmd (outcome.Did (reply_of limit table feed cmd)) ∷ replied_in limit feed (table_after limit table feed cmd) lines
replied_in limit feed table (asked cmd outcome.Refused ∷ lines) = asked cmd outcome.Refused ∷ replied_in limit feed table lines

-- the same lines are read
same_readings : (limit feed : ℕ) (table : List Route) (lines : List LineOutcome) → map reading lines ≡ map reading (replied_in limit feed table lines)
same_readings limit feed table [] = refl
same_readings limit feed table (skipped ∷ lines) = ap (λ rest. reading skipped ∷ rest) (same_readings limit feed table lines)
same_readings limit feed table (faulty fault ∷ lines) = ap (λ rest. reading (faulty fault) ∷ rest) (same_readings limit feed table lines)
same_readings limit feed table (asked cmd (outcome.Did reply) ∷ lines) =
    ap (λ rest. Ok (Some cmd) ∷ rest) (same_readings limit feed (table_after limit table feed cmd) lines)
same_readings limit feed table (asked cmd outcome.Refused ∷ lines) = ap (λ rest. Ok (Some cmd) ∷ rest) (same_readings limit feed table lines)

yield_again : (version : Version) (text rest : List ℕ) (lines others : List LineOutcome) → LinesYield version text lines rest
    → map reading lines ≡ map reading others → LinesYield version text others rest
yield_again version text rest [] [] is same = is
yield_again version text rest (one ∷ lines) (other ∷ others) (line, next, cut, reads, more) same =
    let head : reading one ≡ reading other = cc in
    let tail : map reading lines ≡ map reading others = cc in
    (line, next, cut, subst (λ read. AnswersLine version line read) head reads, yield_again version next rest lines others more tail)
yield_again version text rest lines others is same = absurd (cc)

replied-heading : (limit feed : ℕ) (table : List Route) (version : Version) (lines : List LineOutcome)
    → replied_in limit feed table (heading version ++ lines) ≡ heading version ++ replied_in limit feed table lines
replied-heading limit feed table One lines = refl
replied-heading limit feed table Two lines = refl

pub text_again : (limit feed : ℕ) (table : List Route) (text : List ℕ) (lines : List LineOutcome) → TextYields text lines []
    → TextYields text (replied_in limit feed table lines) []
text_again limit feed table text lines is = record {
  version = is.version;
  lines = is.lines;
  read = replied_in limit feed table is.read;
  body = is.body;
  become = yield_again is.version is.lines [] is.read (replied_in limit feed table is.read) is.become (same_readings limit feed table is.read);
  joined = ap (replied_in limit feed table) is.joined ∙ replied-heading limit feed table is.version is.read;
}

-- the replies before don't matter
pub replied_again : (limit feed : ℕ) (table other : List Route) (lines : List LineOutcome)
    → replied_in limit feed table (replied_in limit feed other lines) ≡ replied_in limit feed table lines
replied_again limit feed table other [] = refl
replied_again limit feed table other (skipped ∷ lines) = ap (λ rest. skipped ∷ rest) (replied_again limit feed table other lines)
replied_again limit feed table other (faulty fault ∷ lines) = ap (λ rest. faulty fault ∷ rest) (replied_again limit feed table other lines)
replied_again limit feed table other (asked cmd (outcome.Did reply) ∷ lines) =
    ap (λ rest. asked cmd (outcome.Did (reply_of limit table feed cmd)) ∷ rest)
    (replied_again limit feed (table_after limit table feed cmd) (table_after limit other feed cmd) lines)
replied_again limit feed table other (asked cmd outcome.Refused ∷ lines) = ap (λ rest. asked cmd outcome.Refused ∷ rest) (replied_again limit feed table other lines)

-- and the same commands were answered
same_answered : (limit feed : ℕ) (table : List Route) (lines : List LineOutcome)
    → commands (map did (visit_of (commands_of (replied_in limit feed table lines)))) ≡ commands (map did (visit_of (commands_of lines)))
same_answered limit feed table [] = refl
same_answered limit feed table (skipped ∷ lines) = same_answered limit feed table lines
same_answered limit feed table (faulty fault ∷ lines) = same_answered limit feed table lines
same_answered limit feed table (asked cmd (outcome.Did reply) ∷ lines) = ap (λ cmds. cmd ∷ cmds) (same_answered limit feed (table_after limit table feed cmd) lines)
same_answered limit feed table (asked cmd outcome.Refused ∷ lines) = same_answered limit feed table lines

-- so they leave the same routes by themselves
pub same_left : (limit feed : ℕ) (table : List Route) (lines : List LineOutcome)
    → table_of_journal limit (entries feed (visit_of (commands_of (replied_in limit feed table lines)))) ≡ table_of_journal limit (entries feed (visit_of (commands_of lines)))
same_left limit feed table lines =
    let visit = visit_of (commands_of lines) in
    let again = visit_of (commands_of (replied_in limit feed table lines)) in
    table-entries limit feed again
    ∙ (alone-commands limit feed (map did again) (map did visit) (same_answered limit feed table lines) ∙ sym (table-entries limit feed visit))

-- the lines could have been executed in these routes with these replies
pub continues-replied : (limit feed : ℕ) (table : List Route) (lines : List LineOutcome)
    → (after : List Route) × Continues feed (commands_of (replied_in limit feed table lines)) (state limit table) (state limit after)
continues-replied limit feed table [] = (table, continues-none feed (state limit table))
continues-replied limit feed table (skipped ∷ lines) = continues-replied limit feed table lines
continues-replied limit feed table (faulty fault ∷ lines) = continues-replied limit feed table lines
continues-replied limit feed table (asked cmd (outcome.Did reply) ∷ lines) =
    let next = table_after limit table feed cmd in
    let here = reply_of limit table feed cmd in
    let rest = continues-replied limit feed next lines in (
      rest.0,
      continues-both feed ((cmd, outcome.Did here) ∷ []) (commands_of (replied_in limit feed next lines)) (state limit table) (state limit next) (state limit rest.0)
          (continues-did feed cmd here (state limit table) (state limit next) (record { replied = refl; changed = refl })) rest.1,
    )
continues-replied limit feed table (asked cmd outcome.Refused ∷ lines) = continues-replied limit feed table lines

-- in a lawful journal the own commands of a feed have the replies that they have without the other feeds, and the others aren't
-- counted: the tally of the lines is that of the lines by themselves
module _ (alone : FeedsStandAlone) (limit feed : ℕ) (journal : List Entry) (lawful : IsLawfulJournal limit journal) where
  tally_from : (number : ℕ) (front : AnsweredBatch) (lines : List LineOutcome) → feed_entries feed journal ≡ entries feed (front ++ visit_of (commands_of lines))
      → tally_of (report_lines number lines) ≡ tally_of (report_lines number (replied_in limit feed (table_of_journal limit (entries feed front)) lines))
  tally_from number front [] is = refl
  tally_from number front (skipped ∷ lines) is = tally_from (number + 1) front lines is
  tally_from number front (faulty fault ∷ lines) is =
      let table = table_of_journal limit (entries feed front) in
      tally-line number (answer.Fault fault) (report_lines (number + 1) lines)
      ∙ (ap (with_line number (answer.Fault fault)) (tally_from (number + 1) front lines is)
      ∙ sym (tally-line number (answer.Fault fault) (report_lines (number + 1) (replied_in limit feed table lines))))
  tally_from number front (asked cmd outcome.Refused ∷ lines) is =
      let table = table_of_journal limit (entries feed front) in
      tally-line number answer.Refused (report_lines (number + 1) lines)
      ∙ (ap (with_line number answer.Refused) (tally_from (number + 1) front lines is)
      ∙ sym (tally-line number answer.Refused (report_lines (number + 1) (replied_in limit feed table lines))))
  tally_from number front (asked cmd (outcome.Did reply) ∷ lines) is =
      let table = table_of_journal limit (entries feed front) in
      let e = entry_of feed (cmd, reply) in
      let later = visit_of (commands_of lines) in
      let here = reply_of limit table feed cmd in
      let parts : feed_entries feed journal ≡ entries feed front ++ e ∷ entries feed later = is ∙ map-append (entry_of feed) front ((cmd, reply) ∷ later) in
      let (ahead, behind, split, same) = filter_split (λ x. x.feed == feed) journal (entries feed front) (entries feed later) e parts in
      let replied : reply ≡ reply_of limit (table_of_journal limit ahead) feed cmd = lawful.answered ahead e behind split in
      let counted : Reply → RejectedInput → RejectedInput = λ r tally. with_line number (answer.Did r) tally in
      let alike : (tally : RejectedInput) → counted reply tally ≡ counted here tally =
      λ tally. elim (cases_Bool (is_own cmd)) [
        | inl own ↦
            ap (λ r. counted r tally) (replied ∙ ((alone limit feed ahead cmd).1 own ∙ ap (λ own_part. reply_of limit (table_of_journal limit own_part) feed cmd) same))
        | inr other ↦
            ap (λ r. counted r tally) replied
            ∙ (uncounted limit feed number tally (table_of_journal limit ahead) cmd other ∙ sym (uncounted limit feed number tally table cmd other))
      ] in
      let next : table_of_journal limit (entries feed (front ++ (cmd, reply) ∷ [])) ≡ table_after limit table feed cmd =
      ap (table_of_journal limit) (map-append (entry_of feed) front ((cmd, reply) ∷ [])) ∙ table_of_journal-push limit (entries feed front) e in
      let rest = tally_from (number + 1) (front ++ (cmd, reply) ∷ []) lines (is ∙ ap (entries feed) (sym (append_assoc front ((cmd, reply) ∷ []) later))) in
      tally-line number (answer.Did reply) (report_lines (number + 1) lines)
      ∙ (ap (counted reply) (rest ∙ ap (λ routes. tally_of (report_lines (number + 1) (replied_in limit feed routes lines))) next)
      ∙ (alike (tally_of (report_lines (number + 1) (replied_in limit feed (table_after limit table feed cmd) lines)))
      ∙ sym (tally-line number (answer.Did here) (report_lines (number + 1) (replied_in limit feed (table_after limit table feed cmd) lines)))))

  pub tally_alone : (lines : List LineOutcome) → feed_entries feed journal ≡ entries feed (visit_of (commands_of lines))
      → tally_of (report_lines 1 lines) ≡ tally_of (report_lines 1 (replied_in limit feed [] lines))
  unfolding table_of_journal
  tally_alone lines is = tally_from 1 [] lines is

-- the lines of the feed's text leave these routes by themselves, and this is their tally
pub record IsExecutedAlone (limit feed : ℕ) (text : List ℕ) (own : List Route) (tally : RejectedInput) : Type 0 where
  pub lines : List LineOutcome
  pub becomes : TextYields text lines []
  pub leaves : own ≡ table_of_journal limit (entries feed (visit_of (commands_of lines)))
  pub tallied : tally ≡ tally_of (report_lines 1 (replied_in limit feed [] lines))

-- a text that a journal explains
explained_alone : FeedsStandAlone → EntriesOfVisits → (limit batch feed : ℕ) (journal : List Entry) (text : List ℕ) (lines : List LineOutcome)
    → IsLawfulJournal limit journal → Explains batch feed journal text lines
    → IsExecutedAlone limit feed text (feed_routes feed (table_of_journal limit journal)) (tally_of (report_lines 1 lines))
explained_alone alone law limit batch feed journal text lines lawful explains =
    let own : feed_entries feed journal ≡ entries feed (visit_of (commands_of lines)) =
    law feed _ journal explains.uncut
    ∙ (entries-pieces feed explains.pieces ∙ ap (λ cmds. entries feed (visit_of cmds)) (split-joined (commands_of lines) explains.pieces explains.cut)) in
    record {
      lines = lines;
      becomes = explains.becomes;
      leaves = (alone limit feed journal Dump).0 ∙ ap (table_of_journal limit) own;
      tallied = tally_alone alone limit feed journal lawful lines own;
    }

-- the same for the text at a place
explained_at : FeedsStandAlone → EntriesOfVisits → (limit batch : ℕ) (journal : List Entry) → IsLawfulJournal limit journal
    → (first k feed : ℕ) (none : RejectedInput) (texts : List (List ℕ)) (outcomes : List (List LineOutcome))
    → feed ≡ first + k → k < length texts → ExplainsFrom batch first journal texts outcomes
    → IsExecutedAlone limit feed (get_or texts k []) (feed_routes feed (table_of_journal limit journal)) (get_or (map tally_of (reports_of outcomes)) k none)
explained_at alone law limit batch journal lawful first k feed none [] [] is here explains = absurd (omega (arith, here))
explained_at alone law limit batch journal lawful first zero feed none (text ∷ texts) (lines ∷ outcomes) is here explains =
    let this : first ≡ feed = omega (arith, is) in
    explained_alone alone law limit batch feed journal text lines lawful (subst (λ n. Explains batch n journal text lines) this explains.0)
explained_at alone law limit batch journal lawful first (suc k) feed none (text ∷ texts) (lines ∷ outcomes) is here explains =
    explained_at alone law limit batch journal lawful (first + 1) k feed none texts outcomes (omega (arith, is)) (omega (arith, here)) explains.1
explained_at alone law limit batch journal lawful first k feed none texts outcomes is here explains = absurd explains

-- each text of a run
pub executed_alone : FeedsStandAlone → EntriesOfVisits → (one : RunContents) (table : List Route) (tallies : List RejectedInput) (k : ℕ) (none : RejectedInput)
    → LeavesTable one table tallies → k < length one.texts
    → IsExecutedAlone one.limit (k + 1) (get_or one.texts k []) (feed_routes (k + 1) table) (get_or tallies k none)
executed_alone alone law one table tallies k none left here =
    rw (left.left, left.tallied)
    (explained_at alone law one.limit one.batch left.journal left.history.lawful 1 k (k + 1) none one.texts left.outcomes (omega arith) here left.history.explained)

-- an empty text leaves nothing
pub leaves_none_alone : (limit feed : ℕ) (text : List ℕ) (own : List Route) (tally : RejectedInput) → text ≡ [] → IsExecutedAlone limit feed text own tally → own ≡ []
unfolding table_of_journal
leaves_none_alone limit feed text own tally empty is =
    is.leaves ∙ ap (λ cmds. table_of_journal limit (entries feed (visit_of cmds))) (none_asked is.lines (rw empty at is.becomes))
