-- The table of a run without some feeds is the table of the whole run without their routes; hence so is what is told of it.
use Rattle.std.proofs.Common.{◌≡◌, ℕ, ◌+◌, inl, inr, true, false, Some, List, [], ◌∷◌, ◌++◌, length, map, get_or, refl, sym, ap, subst, ◌∙◌, arith, eqb-true, Bool}
use Rattle.std.specs.List.{Contains, filter}
use Rattle.std.specs.Bool.{◌==◌}
use Rattle.std.proofs.lemmas.Bool.{cases_Bool, eq-eqb, not-true}
use Rattle.std.proofs.lemmas.Option.{slice_get-get_or, slice_get_within, same_Some}
use Rattle.rt_rib.specs.declared.routes.Route.{Route}
use Rattle.rt_rib.specs.declared.commands.Cmd.{Cmd}
use Rattle.rt_rib.specs.declared.commands.Cmd.TheVariants.{Dump}
use Rattle.rt_rib.specs.declared.commands.Reply.TheVariants.{Added}
use Rattle.rt_rib.specs.Sequential.{table_of_journal}
use Rattle.rt_rib.proofs.Sets.{Contains-none, filter-keeps, filter-from}
use Rattle.rt_rib.specs.Laws.{FeedsStandAlone, feed_entries, feed_routes, OneTableOfSet}
use Rattle.rt_shared.specs.declared.outcome.Outcome.{Outcome}
use Rattle.rt_shared.specs.JournalVisits.{AnsweredBatch, entries}
use Rattle.std.specs.Prelude.{codes, not}
use Rattle.rt_feed.specs.declared.versions.Version.{Version}
use Rattle.rt_feed.specs.declared.versions.Version.TheVariants.{One, Two}
use Rattle.rt_feed.specs.Lines.{LineOutcome, IsBody, LinesYield, TextYields, heading, commands_of}
use Rattle.rt_feed.proofs.Promised.{length-cut}
use Rattle.rt_run.specs.SameTable.{table_alone, LeavesAlone, LosesLeftOut, ShowsUnion, ShowsRest}
use Rattle.rt_run.proofs.SameTables.{commands, alone-commands, did, table-entries}
use Rattle.std.proofs.lemmas.List.Kept.{AllPairs-filter}
use Rattle.rt_rib.specs.Table.{IsTable, precedes, is_of}

-- commands, each with some reply
abbrev answered : List (Cmd × Outcome) → AnsweredBatch
answered [] = []
answered (one ∷ all) = (one.0, Added) ∷ answered all

same_commands : (all : List (Cmd × Outcome)) → commands (map did (answered all)) ≡ commands all
same_commands [] = refl
same_commands (one ∷ all) = ap (λ cmds. one.0 ∷ cmds) (same_commands all)

-- a feed's entries are all its own
pub own_entries : (feed : ℕ) (visit : AnsweredBatch) → feed_entries feed (entries feed visit) ≡ entries feed visit
own_entries feed [] = refl
own_entries feed (p ∷ visit) = rw (eq-eqb feed feed refl, own_entries feed visit)

-- hence a feed's commands leave by themselves only routes of that feed
alone_own : FeedsStandAlone → (limit feed : ℕ) (all : List (Cmd × Outcome)) (r : Route) → Contains (table_alone limit feed all) r → r.feed ≡ feed
alone_own alone limit feed all r c =
    let visit = answered all in
    let left : table_of_journal limit (entries feed visit) ≡ table_alone limit feed all =
    table-entries limit feed visit ∙ alone-commands limit feed (map did visit) all (same_commands all) in
    let own : feed_routes feed (table_of_journal limit (entries feed visit)) ≡ table_alone limit feed all =
    (alone limit feed (entries feed visit) Dump).0 ∙ (ap (table_of_journal limit) (own_entries feed visit) ∙ left) in
    eqb-true r.feed feed (filter-from (λ s. s.feed == feed) (table_of_journal limit (entries feed visit)) r (subst (λ l. Contains l r) (sym own) c)).1

-- an empty text has no line, hence no command
no_lines : (version : Version) (lines : List ℕ) (read : List LineOutcome)
    → IsBody [] version lines → LinesYield version lines read [] → heading version ++ read ≡ []
no_lines One lines [] body become = refl
no_lines One lines (one ∷ others) body become = absurd (omega (arith, length-cut lines become.0 become.1 become.2, ap length body.1))
no_lines Two lines read body become = absurd (omega (arith, length-cut [] (codes "version 2") lines body))

pub none_asked : (lines : List LineOutcome) → TextYields [] lines [] → commands_of lines ≡ []
none_asked lines is = ap commands_of (is.joined ∙ no_lines is.version is.lines is.read is.body is.become)

-- lists of texts that agree at a position have the same text there, which leaves the same routes
same_place : (xs ys : List (List ℕ)) (limit k : ℕ) (r : Route) → length xs ≡ length ys → get_or xs k [] ≡ get_or ys k []
    → LeavesAlone xs limit k r → LeavesAlone ys limit k r
same_place xs ys limit k r same agree (text, lines, is, becomes, has) =
    let within = slice_get_within xs k text is in
    let stands = slice_get-get_or ys k [] (omega (arith, within, same)) ∙ (ap Some (sym agree) ∙ (sym (slice_get-get_or xs k [] within) ∙ is)) in
    (text, lines, stands, becomes, has)

-- the text of a feed that is left out leaves no route
leaves_none : (texts : List (List ℕ)) (limit k : ℕ) (r : Route) → get_or texts k [] ≡ [] → LeavesAlone texts limit k r → ⊥
unfolding table_alone
leaves_none texts limit k r empty (text, lines, is, becomes, has) =
    let whole : text ≡ [] = same_Some _ _ (sym is ∙ slice_get-get_or texts k [] (slice_get_within texts k text is)) ∙ empty in
    let none : commands_of lines ≡ [] = none_asked lines (subst (λ t. TextYields t lines []) whole becomes) in
    Contains-none r (subst (λ l. Contains l r) (ap (table_alone limit (k + 1)) none) has)

pub loses_left_out : FeedsStandAlone → LosesLeftOut
loses_left_out alone is_left_out all texts limit union rest without of_all of_rest r = (
  (λ c.
      let leaves = (of_rest.contains r).0 c in
      let k = leaves.0 in
      let own : r.feed ≡ k + 1 = alone_own alone limit (k + 1) (commands_of leaves.1.1) r leaves.1.4 in
      elim (cases_Bool (is_left_out (k + 1))) [
        | inl out ↦ absurd (leaves_none texts limit k r (without.empty k out) leaves.1)
        | inr kept ↦
            let stays = same_place texts all limit k r without.as_many (without.others k kept) leaves.1 in
            ((of_all.contains r).1 (k, stays), ap is_left_out own ∙ kept)
      ]),
  (λ both.
      let leaves = (of_all.contains r).0 both.0 in
      let k = leaves.0 in
      let own : r.feed ≡ k + 1 = alone_own alone limit (k + 1) (commands_of leaves.1.1) r leaves.1.4 in
      let kept : is_left_out (k + 1) ≡ false = ap is_left_out (sym own) ∙ both.1 in
      (of_rest.contains r).1 (k, same_place all texts limit k r (sym without.as_many) (sym (without.others k kept)) leaves.1)),
)

-- a table without some of its routes is a table
filtered_table : (test : Route → Bool) (table : List Route) → IsTable table → IsTable (filter test table)
filtered_table test table is = record {
  ordered = AllPairs-filter (λ r s. precedes r s ≡ true) test table is.ordered;
  single = AllPairs-filter (λ r s. is_of s.feed s.prefix r ≡ false) test table is.single;
}

pub shows_rest : ShowsUnion → LosesLeftOut → OneTableOfSet → ShowsRest
shows_rest shows loses one is_left_out all union asked text_of bytes tallies without of_all is not_refused =
    let stays : Route → Bool = λ r. not (is_left_out r.feed) in
    let rest = shows asked text_of bytes tallies is not_refused in
    let same : rest.0 ≡ filter stays union =
    one rest.0 (filter stays union) rest.1.table (filtered_table stays union of_all.table) (λ r. (
      (λ c.
          let both = (loses is_left_out all asked.texts asked.limit union rest.0 without of_all rest.1 r).0 c in
          filter-keeps stays union r both.0 (ap not both.1)),
      (λ c.
          let kept = filter-from stays union r c in
          (loses is_left_out all asked.texts asked.limit union rest.0 without of_all rest.1 r).1 (kept.0, not-true (is_left_out r.feed) kept.1)),
    )) in
    rest.2 ∙ ap text_of same
