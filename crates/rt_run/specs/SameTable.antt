-- The part of a run that doesn't depend on the interleaving of its feeds' visits: the table at its end, the replies to
-- commands that concern only their feed's own routes, the tally of each text, and the output of queries and comparisons.
use Rattle.std.specs.Prelude.{◌≡◌, ◌≢◌, ◌↔◌, ℕ, ◌+◌, true, false, List, [], ◌∷◌, ◌++◌, fold, map, Some, Bool, not, filter}
use Rattle.std.specs.List.{slice_get, Contains}
use Rattle.rt_rib.specs.declared.routes.Route.{Route}
use Rattle.rt_rib.specs.declared.commands.Cmd.{Cmd}
use Rattle.rt_rib.specs.declared.commands.Entry.{Entry}
use Rattle.rt_rib.specs.Sequential.{table_of_journal, reply_of, table_after}
use Rattle.rt_rib.specs.Table.{IsTable}
use Rattle.rt_rib.specs.Laws.{is_own}
use Rattle.rt_shared.specs.declared.outcome.Outcome.{Outcome}
use Rattle.rt_shared.specs.declared.outcome.Outcome.TheVariants.{Did}
use Rattle.rt_rib.specs.declared.commands.Reply.TheVariants.{Found, NoRoute, Dumped}
use Rattle.rt_feed.specs.declared.report.Line.{Line}
use Rattle.rt_feed.specs.declared.report.Answer.{Answer}
use Rattle.rt_feed.specs.declared.report.Answer.TheVariants as answer
use Rattle.rt_feed.specs.Lines.{LineOutcome, TextYields, commands_of}
use Rattle.rt_print.specs.Routes.{table_text}
use Rattle.rt_print.specs.Styles.{StyleContents}
use Rattle.rt_run.specs.declared.tallies.RejectedInput.{RejectedInput}
use Rattle.rt_run.specs.declared.tallies.RunSummary.{RunSummary}
use Rattle.rt_run.specs.declared.question.Question.{Question}
use Rattle.rt_run.specs.RunText.{RunContents, IsJournalOfRun, IsRunText, reports_of, reports_text, some_refused}
use Rattle.rt_run.specs.TableText.{tally_of, NoneRefused, IsQueryOutput, IsAnswer}
use Rattle.rt_run.specs.ChosenFeeds.{AreWithout}
use Rattle.rt_diff.specs.declared.comparison.Difference.{Difference}
use Rattle.rt_diff.specs.Answers.{own_numbers}
use Rattle.rt_diff.specs.Differences.{AreDifferences}
use Rattle.rt_print.specs.DifferenceText.{DiffContents}
use Rattle.rt_run.specs.DiffText.{renumbered_new, diff_text, TellsCounts, IsDiffText, IsCountText}

-- the set that the feed's commands leave by themselves, whatever their outcomes, with at most `limit` routes
unfoldable pub table_alone : ℕ → ℕ → List (Cmd × Outcome) → List Route
table_alone limit feed asked = fold (λ table one. table_after limit table feed one.0) [] asked

-- the commands of the text with index k, whose feed is k + 1, leave the route by themselves
abbrev pub LeavesAlone : List (List ℕ) → ℕ → ℕ → Route → Type 0
LeavesAlone texts limit k r =
    (text : List ℕ) × (lines : List LineOutcome) × (slice_get texts k ≡ Some text) × TextYields text lines []
    × Contains (table_alone limit (k + 1) (commands_of lines)) r

-- the table that contains a route if and only if some text leaves it by itself
pub record IsUnion (texts : List (List ℕ)) (limit : ℕ) (union : List Route) : Type 0 where
  pub table : IsTable union
  pub contains : (r : Route) → Contains union r ↔ ((k : ℕ) × LeavesAlone texts limit k r)

-- each of the feed's commands that concerns only its own routes was answered from the set that the feed's earlier commands
-- leave by themselves
abbrev pub IsAnsweredAlone : ℕ → ℕ → List (Cmd × Outcome) → Type 0
IsAnsweredAlone limit feed asked =
    (earlier later : List (Cmd × Outcome)) (cmd : Cmd) (outcome : Outcome) → asked ≡ earlier ++ (cmd, outcome) ∷ later → is_own cmd ≡ true
    → outcome ≡ Did (reply_of limit (table_alone limit feed earlier) feed cmd)

-- if no command ran out of memory, a run's journal leaves the table of the union
abbrev pub LeavesUnion : Type 0
LeavesUnion =
    (texts : List (List ℕ)) (limit batch : ℕ) (journal : List Entry) (outcomes : List (List LineOutcome)) → IsJournalOfRun texts limit batch journal outcomes
    → some_refused outcomes ≡ false → IsUnion texts limit (table_of_journal limit journal)

-- if no command ran out of memory, each feed's commands on its own routes were answered as if there were no other feed
abbrev pub AnswersAlone : Type 0
AnswersAlone =
    (texts : List (List ℕ)) (limit batch : ℕ) (journal : List Entry) (outcomes : List (List LineOutcome)) → IsJournalOfRun texts limit batch journal outcomes
    → some_refused outcomes ≡ false → (k : ℕ) (lines : List LineOutcome) → slice_get outcomes k ≡ Some lines → IsAnsweredAlone limit (k + 1) (commands_of lines)

-- if no command ran out of memory, the reports of two runs of the same texts and limit have the same tallies, for any
-- batches and any interleaving of the threads
abbrev pub HaveSameTallies : Type 0
HaveSameTallies =
    (texts : List (List ℕ)) (limit batch batch' : ℕ) (journal journal' : List Entry) (outcomes outcomes' : List (List LineOutcome))
    → IsJournalOfRun texts limit batch journal outcomes → IsJournalOfRun texts limit batch' journal' outcomes'
    → some_refused outcomes ≡ false → some_refused outcomes' ≡ false
    → map tally_of (reports_of outcomes) ≡ map tally_of (reports_of outcomes')

-- the same texts and limit have only one union
abbrev pub HaveOneUnion : Type 0
HaveOneUnion = (texts : List (List ℕ)) (limit : ℕ) (one other : List Route) → IsUnion texts limit one → IsUnion texts limit other → one ≡ other

-- the answer isn't the reply to a `lookup` or a `dump`
abbrev pub is_own_answer : Answer → Bool
is_own_answer (answer.Did (Found route)) = false
is_own_answer (answer.Did NoRoute) = false
is_own_answer (answer.Did (Dumped count)) = false
is_own_answer _ = true

-- if no command ran out of memory, a run's text is its reports and the table of the union
abbrev pub EndsInUnion : Type 0
EndsInUnion =
    (texts : List (List ℕ)) (limit batch : ℕ) (bytes : List ℕ) (status : ℕ) (run : IsRunText texts limit batch bytes status) → status ≢ 5
    → (union : List Route) × IsUnion texts limit union × (bytes ≡ reports_text 1 (reports_of run.outcomes) ++ table_text union)

-- if no command ran out of memory, two runs of the same texts and limit end in the same table with the same status, for
-- any batches and any interleaving of the threads
abbrev pub EndInOneTable : Type 0
EndInOneTable =
    (texts : List (List ℕ)) (limit batch batch' : ℕ) (bytes bytes' : List ℕ) (status status' : ℕ)
    (run : IsRunText texts limit batch bytes status) (run' : IsRunText texts limit batch' bytes' status') → status ≢ 5 → status' ≢ 5
    → (status ≡ status') × (table : List Route) × (bytes ≡ reports_text 1 (reports_of run.outcomes) ++ table_text table) × (bytes' ≡ reports_text 1 (reports_of run'.outcomes) ++ table_text table)

-- the line isn't the reply to a `lookup` or a `dump`
abbrev pub is_own_line : Line → Bool
is_own_line line = is_own_answer line.answer

-- if no command ran out of memory, the reports of two runs of the same texts and limit have the same lines, and hence the same
-- bytes, except for the replies to `lookup` and `dump`: for any batches and any interleaving of the threads
abbrev pub HaveSameLines : Type 0
HaveSameLines =
    (texts : List (List ℕ)) (limit batch batch' : ℕ) (bytes bytes' : List ℕ) (status status' : ℕ)
    (run : IsRunText texts limit batch bytes status) (run' : IsRunText texts limit batch' bytes' status') → status ≢ 5 → status' ≢ 5
    → map (filter is_own_line) (reports_of run.outcomes) ≡ map (filter is_own_line) (reports_of run'.outcomes)

-- the runs have the same texts and the same limit; their batches may differ
abbrev pub HaveSameInput : RunContents → RunContents → Type 0
HaveSameInput one other = (one.texts ≡ other.texts) × (one.limit ≡ other.limit)

-- if no command ran out of memory, the output of a query of a run's table is its output for the union
abbrev pub ShowsUnion : Type 0
ShowsUnion =
    (asked : RunContents) (text_of : List Route → List ℕ) (bytes : List ℕ) (tallies : List RejectedInput)
    → IsQueryOutput asked text_of bytes tallies → NoneRefused tallies
    → (union : List Route) × IsUnion asked.texts asked.limit union × (bytes ≡ text_of union)

-- if no command ran out of memory, two runs of the same texts and limit with the same query write the same bytes, with the
-- same status and tallies, for any batches and any interleaving of the threads
abbrev pub ShowOneTable : Type 0
ShowOneTable =
    (asked asked' : RunContents) (text_of : List Route → List ℕ) (bytes bytes' : List ℕ) (tallies tallies' : List RejectedInput)
    → HaveSameInput asked asked' → IsQueryOutput asked text_of bytes tallies → IsQueryOutput asked' text_of bytes' tallies'
    → NoneRefused tallies → NoneRefused tallies' → (bytes ≡ bytes') × (tallies ≡ tallies')

-- the same for the answers to questions: if texts, limit, style and question are the same, so are the bytes, the status and
-- the tallies
abbrev pub AnswerOnce : Type 0
AnswerOnce =
    (asked asked' : RunContents) (style : StyleContents) (question : Question) (bytes bytes' : List ℕ) (given given' : RunSummary)
    → HaveSameInput asked asked' → IsAnswer asked style question bytes given → IsAnswer asked' style question bytes' given'
    → NoneRefused given.tallies.items → NoneRefused given'.tallies.items
    → (bytes ≡ bytes') × (given.status ≡ given'.status) × (given.tallies.items ≡ given'.tallies.items)

-- the union of the texts without some feeds contains the routes of the union of all texts, except the routes of the feeds
-- that are left out
abbrev pub LosesLeftOut : Type 0
LosesLeftOut =
    (is_left_out : ℕ → Bool) (all texts : List (List ℕ)) (limit : ℕ) (union rest : List Route) → AreWithout is_left_out all texts
    → IsUnion all limit union → IsUnion texts limit rest
    → (r : Route) → Contains rest r ↔ (Contains union r × (is_left_out r.feed ≡ false))

-- and what is told of the table of such a run is told of these routes, if no command was refused for want of memory
abbrev pub ShowsRest : Type 0
ShowsRest =
    (is_left_out : ℕ → Bool) (all : List (List ℕ)) (union : List Route) (asked : RunContents) (text_of : List Route → List ℕ) (bytes : List ℕ) (tallies : List RejectedInput)
    → AreWithout is_left_out all asked.texts → IsUnion all asked.limit union → IsQueryOutput asked text_of bytes tallies → NoneRefused tallies
    → bytes ≡ text_of (filter (λ r. not (is_left_out r.feed)) union)

-- the ranges for which the unions of the old and of the new texts give different answers are printed in this way
pub record TellsUnions (asked : DiffContents) (old new : RunContents) (ArePrinted : List Difference → Type 0) : Type 0 where
  pub old_union : List Route
  pub new_union : List Route
  pub of_old : IsUnion old.texts old.limit old_union
  pub of_new : IsUnion new.texts new.limit new_union
  pub list : List Difference
  pub differences : AreDifferences asked.by (own_numbers old_union) (renumbered_new asked new_union) list
  pub printed : ArePrinted list

-- this holds of a comparison if no command ran out of memory
abbrev pub DiffsUnions : Type 0
DiffsUnions =
    (asked : DiffContents) (old new : RunContents) (bytes : List ℕ) (given : RunSummary)
    → IsDiffText asked old new bytes given → NoneRefused given.tallies.items → TellsUnions asked old new (λ list. bytes ≡ diff_text asked list)

-- and of a comparison that writes the counts
abbrev pub CountsUnions : Type 0
CountsUnions =
    (asked : DiffContents) (old new : RunContents) (bytes : List ℕ) (given : RunSummary)
    → IsCountText asked old new bytes given → NoneRefused given.tallies.items → TellsUnions asked old new (λ list. TellsCounts asked list bytes)

-- if no command ran out of memory, two comparisons of the same texts and limits, on the same terms, write the same bytes,
-- with the same statuses and tallies, for any batches and any interleaving of the threads
abbrev pub DiffOnce : Type 0
DiffOnce =
    (asked : DiffContents) (old old' new new' : RunContents) (bytes bytes' : List ℕ) (given given' : RunSummary)
    → HaveSameInput old old' → HaveSameInput new new' → IsDiffText asked old new bytes given → IsDiffText asked old' new' bytes' given'
    → NoneRefused given.tallies.items → NoneRefused given'.tallies.items
    → (bytes ≡ bytes') × (given.status ≡ given'.status) × (given.tallies.items ≡ given'.tallies.items)

-- and so do two comparisons that write the counts
abbrev pub CountOnce : Type 0
CountOnce =
    (asked : DiffContents) (old old' new new' : RunContents) (bytes bytes' : List ℕ) (given given' : RunSummary)
    → HaveSameInput old old' → HaveSameInput new new' → IsCountText asked old new bytes given → IsCountText asked old' new' bytes' given'
    → NoneRefused given.tallies.items → NoneRefused given'.tallies.items
    → (bytes ≡ bytes') × (given.status ≡ given'.status) × (given.tallies.items ≡ given'.tallies.items)
