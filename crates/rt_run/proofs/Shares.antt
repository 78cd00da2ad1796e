-- Runs that share the feeds: their tables are of different feeds, and some run of all texts leaves the table of all their routes.
use Rattle.std.proofs.Common.{◌≡◌, ◌≢◌, ℕ, zero, suc, ◌+◌, ◌-◌, ◌<◌, ◌≤◌, false, not, inl, inr, List, [], ◌∷◌, ◌++◌, length, take, get_or, refl, sym, ap, subst, ◌∙◌, arith, eqb-true}
use Rattle.std.proofs.Common.{append-nil, length-append}
use Rattle.std.specs.Bool.{◌==◌}
use Rattle.std.specs.List.{Contains}
use Rattle.std.proofs.lemmas.Bool.{cases_Bool, cases_lt, cond-true, cond-false, eq-eqb}
use Rattle.std.proofs.lemmas.List.{get_or_default, take_more, take_all, length-take-le}
use Rattle.std.proofs.lemmas.List.Elements.{All-weaker, filter-append}
use Rattle.rt_rib.specs.declared.routes.Route.{Route}
use Rattle.rt_rib.specs.declared.commands.Cmd.TheVariants.{Dump}
use Rattle.rt_rib.specs.declared.commands.Entry.{Entry}
use Rattle.rt_rib.specs.Table.{IsTable}
use Rattle.rt_rib.specs.Sequential.{table_of_journal, IsLawfulJournal}
use Rattle.rt_rib.specs.Laws.{FeedsStandAlone, TableByEntry, OneTableOfSet, feed_entries, feed_routes}
use Rattle.rt_rib.proofs.Sets.{Contains-none, filter-keeps, filter-from}
use Rattle.rt_tables.specs.Unions.{AreOfDifferentFeeds}
use Rattle.rt_shared.specs.JournalVisits.{AllBy, NoneBy, visit_of, entries}
use Rattle.rt_shared.specs.Laws.{EntriesOfVisits}
use Rattle.rt_feed.specs.Lines.{report_lines, commands_of}
use Rattle.rt_run.specs.declared.tallies.RejectedInput.{RejectedInput}
use Rattle.rt_run.specs.RunText.{RunContents}
use Rattle.rt_run.specs.TableText.{tally_of, LeavesTable}
use Rattle.rt_run.specs.inside.Runs.{ExecutesText}
use Rattle.rt_run.specs.Shares.{share_with, is_of_other, share_of, AreShares, AreTalliesOfShares, IsTableOfAll, SharesAreApart, SharesAreOneRun}
use Rattle.rt_run.proofs.InTurn.{entries_by, leaves_nothing, leaves_more}
use Rattle.rt_run.proofs.SameTables.{has_text}
use Rattle.rt_run.proofs.LeftOut.{own_entries}
use Rattle.rt_run.proofs.KeptTexts.{kept_at, kept_length}
use Rattle.rt_run.proofs.Alone.{state, replied_in, text_again, replied_again, same_left, continues-replied, tally_alone, IsExecutedAlone, executed_alone, leaves_none_alone}

-- the feed at a place is another thread's or not
pub other_at : (dealt : List ℕ) (thread k : ℕ) → is_of_other dealt thread (k + 1) ≡ not (share_with dealt k == thread)
other_at dealt thread k = let place : (k + 1) - 1 ≡ k = omega arith in ap (λ i. not (share_with dealt i == thread)) place

-- a thread has the texts of its feeds, and no other
pub has_text_at : (asked : RunContents) (dealt : List ℕ) (thread k : ℕ) → share_with dealt k ≡ thread
    → get_or (share_of asked dealt thread).texts k [] ≡ get_or asked.texts k []
has_text_at asked dealt thread k same =
    kept_at (is_of_other dealt thread) 1 asked.texts k
    ∙ cond-false (is_of_other dealt thread (k + 1)) [] (get_or asked.texts k []) (other_at dealt thread k ∙ ap not (eq-eqb (share_with dealt k) thread same))

pub has_none_at : (asked : RunContents) (dealt : List ℕ) (thread k : ℕ) → (share_with dealt k == thread) ≡ false → get_or (share_of asked dealt thread).texts k [] ≡ []
has_none_at asked dealt thread k other =
    kept_at (is_of_other dealt thread) 1 asked.texts k
    ∙ cond-true (is_of_other dealt thread (k + 1)) [] (get_or asked.texts k []) (other_at dealt thread k ∙ ap not other)

-- texts were executed one after another, and left each feed these routes
pub record HasExecuted (asked : RunContents) (own : ℕ → List Route) (tallies : List RejectedInput) : Type 0 where
  pub routes : List Route
  pub left : LeavesTable asked routes tallies
  pub each : (k : ℕ) → k < length asked.texts → feed_routes (k + 1) routes ≡ own (k + 1)

pub executes_nothing : (limit batch : ℕ) (own : ℕ → List Route) (tallies : List RejectedInput) → tallies ≡ []
    → HasExecuted (record { texts = []; limit = limit; batch = batch }) own tallies
executes_nothing limit batch own tallies none = record {
  routes = [];
  left = leaves_nothing limit batch (state limit []) tallies refl none;
  each = λ k here. absurd (omega (arith, here));
}

-- one more text: its lines could have been executed after the others, with the same tally and the same routes of the feed
pub executes_more : FeedsStandAlone → EntriesOfVisits → (texts : List (List ℕ)) (text : List ℕ) (limit batch feed : ℕ) (own : ℕ → List Route)
    (tallies tallies' : List RejectedInput) (tally : RejectedInput)
    → 1 ≤ batch → feed ≡ length texts + 1 → HasExecuted (record { texts = texts; limit = limit; batch = batch }) own tallies
    → IsExecutedAlone limit feed text (own feed) tally → tallies' ≡ tallies ++ tally ∷ []
    → HasExecuted (record { texts = texts ++ text ∷ []; limit = limit; batch = batch }) own tallies'
executes_more alone law texts text limit batch feed own tallies tallies' tally some is so_far one pushed =
    let before = so_far.routes in
    let journal = so_far.left.journal in
    let again = replied_in limit feed before one.lines in
    let moved = continues-replied limit feed before one.lines in
    let after = moved.0 in
    let new = entries feed (visit_of (commands_of again)) in
    let ended : IsLawfulJournal limit (journal ++ new) × (after ≡ table_of_journal limit (journal ++ new)) = moved.1.1 journal so_far.left.history.lawful so_far.left.left in
    let by : AllBy feed new = entries_by feed (visit_of (commands_of again)) in
    let Fits : Entry → Type 0 = λ e. (1 ≤ e.feed) × (e.feed ≤ length texts) in
    let others : NoneBy feed journal =
    All-weaker Fits (λ (e : Entry). e.feed ≢ feed) (λ e of same. absurd (omega (arith, of.1, same, is))) journal so_far.left.history.no_other in
    let split : (g : ℕ) → feed_entries g (journal ++ new) ≡ feed_entries g journal ++ feed_entries g new = λ g. filter-append (λ (e : Entry). e.feed == g) journal new in
    let mine : feed_entries feed (journal ++ new) ≡ new =
    split feed ∙ (ap (λ part. part ++ feed_entries feed new) (law feed [] journal others) ∙ own_entries feed (visit_of (commands_of again))) in
    let told : tally ≡ tally_of (report_lines 1 again) =
    one.tallied
    ∙ sym (tally_alone alone limit feed (journal ++ new) ended.0 again mine ∙ ap (λ lines. tally_of (report_lines 1 lines)) (replied_again limit feed [] before one.lines)) in
    let executed : ExecutesText feed text (state limit before) (state limit after) tally =
    record { outcomes = again; becomes = text_again limit feed before text one.lines one.becomes; continued = moved.1; tallied = told } in
    record {
      routes = after;
      left = leaves_more texts text limit batch feed (state limit before) (state limit after) tallies tallies' tally some is refl so_far.left executed pushed;
      each = λ k here. elim (cases_lt k (length texts)) [
        | inl earlier ↦
            let other : NoneBy (k + 1) new =
            All-weaker (λ (e : Entry). e.feed ≡ feed) (λ (e : Entry). e.feed ≢ k + 1) (λ e of same. absurd (omega (arith, of, same, is, earlier))) new by in
            let kept : feed_entries (k + 1) (journal ++ new) ≡ feed_entries (k + 1) journal =
            split (k + 1) ∙ (ap (λ part. feed_entries (k + 1) journal ++ part) (law (k + 1) [] new other) ∙ append-nil (feed_entries (k + 1) journal)) in
            ap (feed_routes (k + 1)) ended.1 ∙ ((alone limit (k + 1) (journal ++ new) Dump).0
            ∙ (ap (table_of_journal limit) kept ∙ (sym (alone limit (k + 1) journal Dump).0 ∙ (ap (feed_routes (k + 1)) (sym so_far.left.left) ∙ so_far.each k earlier))))
        | inr last ↦
            let number : k + 1 ≡ feed = omega (arith, here, last, is, length-append texts (text ∷ [])) in
            subst (λ g. feed_routes g after ≡ own g) (sym number)
            (ap (feed_routes feed) ended.1 ∙ ((alone limit feed (journal ++ new) Dump).0
            ∙ (ap (table_of_journal limit) mine ∙ (same_left limit feed before one.lines ∙ sym one.leaves))))
      ];
    }

-- a route that a run leaves is of a feed that has a text
of_some_feed : FeedsStandAlone → TableByEntry → (one : RunContents) (table : List Route) (tallies : List RejectedInput) → LeavesTable one table tallies
    → (r : Route) → Contains table r → (k : ℕ) × (k < length one.texts) × (r.feed ≡ k + 1)
of_some_feed alone by_entry one table tallies left r c =
    let own : Contains (feed_routes r.feed table) r = filter-keeps (λ s. s.feed == r.feed) table r c (eq-eqb r.feed r.feed refl) in
    elim (has_text left.journal (length one.texts) r.feed left.history.no_other (feed_entries r.feed left.journal) refl) [
      | inl empty ↦
          let none : feed_routes r.feed table ≡ [] =
          ap (feed_routes r.feed) left.left ∙ ((alone one.limit r.feed left.journal Dump).0 ∙ (ap (table_of_journal one.limit) empty ∙ by_entry.empty one.limit)) in
          absurd (Contains-none r (subst (λ l. Contains l r) none own))
      | inr within ↦ (r.feed - 1, omega (arith, within), omega (arith, within))
    ]

-- a list contains the element at a place
contains_at : {X : Type 0} (xs : List X) (i : ℕ) (d : X) → i < length xs → Contains xs (get_or xs i d)
contains_at xs i d here = (i, here, get_or_default xs i (get_or xs i d) d here)

module _ (alone : FeedsStandAlone) (law : EntriesOfVisits) (by_entry : TableByEntry) (asked : RunContents) (dealt : List ℕ) (tables : List (List Route))
    (tallies : List (List RejectedInput)) (shares : AreShares asked dealt tables tallies) where
  -- the routes of a feed in the table of its run
  abbrev own_routes : ℕ → List Route
  own_routes feed = feed_routes feed (get_or tables (share_with dealt (feed - 1)) [])

  -- the routes of the feed whose text has this index
  own_at : (k : ℕ) → own_routes (k + 1) ≡ feed_routes (k + 1) (get_or tables (share_with dealt k) [])
  own_at k = let place : (k + 1) - 1 ≡ k = omega arith in ap (λ i. feed_routes (k + 1) (get_or tables (share_with dealt i) [])) place

  count_at : (share : ℕ) → length (share_of asked dealt share).texts ≡ length asked.texts
  count_at share = kept_length (is_of_other dealt share) 1 asked.texts

  -- each text as its run executed it
  executed_in_share : (k : ℕ) (none : RejectedInput) → k < length asked.texts
      → IsExecutedAlone asked.limit (k + 1) (get_or asked.texts k []) (own_routes (k + 1)) (get_or (get_or tallies (share_with dealt k) []) k none)
  executed_in_share k none here =
      let share = share_with dealt k in
      let text = has_text_at asked dealt share k refl in
      let there : k < length (share_of asked dealt share).texts = omega (arith, count_at share, here) in
      let is = executed_alone alone law (share_of asked dealt share) (get_or tables share []) (get_or tallies share []) k none
      (shares.left share (shares.dealt_to_some k here)) there in
      let tally = get_or (get_or tallies share []) k none in
      subst (λ routes. IsExecutedAlone asked.limit (k + 1) (get_or asked.texts k []) routes tally) (sym (own_at k))
      (subst (λ t. IsExecutedAlone asked.limit (k + 1) t (feed_routes (k + 1) (get_or tables share [])) tally) text is)

  -- a route of a run's table is of the feed of one of its texts
  of_share : (share : ℕ) → share < length tables → (r : Route) → Contains (get_or tables share []) r
      → (k : ℕ) × (k < length asked.texts) × (r.feed ≡ k + 1) × (share_with dealt k ≡ share)
  of_share share here r c =
      let left = shares.left share here in
      let table = get_or tables share [] in
      let (k, there, number) = of_some_feed alone by_entry (share_of asked dealt share) table (get_or tallies share []) left r c in
      let within : k < length asked.texts = omega (arith, count_at share, there) in
      elim (cases_Bool (share_with dealt k == share)) [
        | inl same ↦ (k, within, number, eqb-true (share_with dealt k) share same)
        | inr other ↦
            let empty = has_none_at asked dealt share k other in
            let executed = executed_alone alone law (share_of asked dealt share) table (get_or tallies share []) k (tally_of []) left there in
            let none : feed_routes (k + 1) table ≡ [] = leaves_none_alone asked.limit (k + 1) _ (feed_routes (k + 1) table) _ empty executed in
            let own : Contains (feed_routes (k + 1) table) r = filter-keeps (λ s. s.feed == (k + 1)) table r c (eq-eqb r.feed (k + 1) number) in
            absurd (Contains-none r (subst (λ l. Contains l r) none own))
      ]

  are_apart : AreOfDifferentFeeds tables
  are_apart i j d before within r s in_one in_other same =
      let here : i < length tables = omega (arith, before, within) in
      let one = of_share i here r (subst (λ t. Contains t r) (get_or_default tables i d [] here) in_one) in
      let other = of_share j within s (subst (λ t. Contains t s) (get_or_default tables j d [] within) in_other) in
      let place : one.0 ≡ other.0 = omega (arith, one.2, other.2, same) in
      let share : i ≡ j = sym one.3 ∙ (ap (share_with dealt) place ∙ other.3) in
      omega (arith, before, share)

  -- the first texts, executed one after another
  first_texts : (all : List RejectedInput) → AreTalliesOfShares asked dealt tallies all → 1 ≤ asked.batch → (n : ℕ) → n ≤ length asked.texts
      → HasExecuted (record { texts = take n asked.texts; limit = asked.limit; batch = asked.batch }) own_routes (take n all)
  first_texts all told some zero here = executes_nothing asked.limit asked.batch own_routes [] refl
  first_texts all told some (suc n) here =
      let within : n < length asked.texts = omega (arith, here) in
      let none = tally_of [] in
      let so_far = first_texts all told some n (omega (arith, here)) in
      let executed = executed_in_share n none within in
      let number : n + 1 ≡ suc n = omega arith in
      let texts : take (n + 1) asked.texts ≡ take n asked.texts ++ get_or asked.texts n [] ∷ [] = take_more asked.texts n [] within in
      let tally = get_or (get_or tallies (share_with dealt n) []) n none in
      let same : take (n + 1) all ≡ take n all ++ tally ∷ [] =
      take_more all n none (omega (arith, told.as_many, within)) ∙ ap (λ t. take n all ++ t ∷ []) (told.each n none within) in
      let more = executes_more alone law (take n asked.texts) (get_or asked.texts n []) asked.limit asked.batch (n + 1) own_routes (take n all) (take (n + 1) all) tally
      some (omega (arith, length-take-le n asked.texts (omega (arith, here)))) so_far executed same in
      subst (λ m. HasExecuted (record { texts = take m asked.texts; limit = asked.limit; batch = asked.batch }) own_routes (take m all)) number
      (subst (λ ts. HasExecuted (record { texts = ts; limit = asked.limit; batch = asked.batch }) own_routes (take (n + 1) all)) (sym texts) more)

  module _ (told : List RejectedInput) (run : HasExecuted asked own_routes told) where
    has_theirs : (r : Route) → Contains run.routes r → (t : List Route) × Contains tables t × Contains t r
    has_theirs r c =
        let (k, here, number) = of_some_feed alone by_entry asked run.routes told run.left r c in
        let share = share_with dealt k in
        let own : Contains (feed_routes (k + 1) run.routes) r = filter-keeps (λ s. s.feed == (k + 1)) run.routes r c (eq-eqb r.feed (k + 1) number) in
        let theirs : Contains (feed_routes (k + 1) (get_or tables share [])) r = subst (λ l. Contains l r) (run.each k here ∙ own_at k) own in
        (get_or tables share [], contains_at tables share [] (shares.dealt_to_some k here), (filter-from (λ s. s.feed == (k + 1)) (get_or tables share []) r theirs).0)

    has_all : (r : Route) → (t : List Route) × Contains tables t × Contains t r → Contains run.routes r
    has_all r (table, (i, here, is), c) =
        let at : get_or tables i [] ≡ table = get_or_default tables i [] table here ∙ is in
        let there : Contains (get_or tables i []) r = subst (λ t. Contains t r) (sym at) c in
        let (k, within, number, same) = of_share i here r there in
        let own : Contains (feed_routes (k + 1) (get_or tables i [])) r = filter-keeps (λ s. s.feed == (k + 1)) (get_or tables i []) r there (eq-eqb r.feed (k + 1) number) in
        let left : feed_routes (k + 1) (get_or tables i []) ≡ feed_routes (k + 1) run.routes =
        sym (run.each k within ∙ (own_at k ∙ ap (λ t. feed_routes (k + 1) (get_or tables t [])) same)) in
        (filter-from (λ s. s.feed == (k + 1)) run.routes r (subst (λ l. Contains l r) left own)).0

    leaves_whole : OneTableOfSet → (whole : List Route) → IsTableOfAll tables whole → LeavesTable asked whole told
    leaves_whole one whole is =
        let is_table : IsTable run.routes = subst IsTable (sym run.left.left) (by_entry.table asked.limit run.left.journal) in
        let same = one run.routes whole is_table is.table (λ r. ((λ c. (is.contains r).1 (has_theirs r c)), (λ c. has_all r ((is.contains r).0 c)))) in
        subst (λ table. LeavesTable asked table told) same run.left

  one_run : OneTableOfSet → (whole : List Route) (all : List RejectedInput) → 1 ≤ asked.batch → IsTableOfAll tables whole
      → AreTalliesOfShares asked dealt tallies all → LeavesTable asked whole all
  one_run one whole all some is told =
      let run = first_texts all told some (length asked.texts) (omega arith) in
      let texts : take (length asked.texts) asked.texts ≡ asked.texts = take_all (length asked.texts) asked.texts (omega arith) in
      let tallied : take (length asked.texts) all ≡ all = take_all (length asked.texts) all (omega (arith, told.as_many)) in
      let whole_run : HasExecuted asked own_routes all =
      subst (λ ts. HasExecuted (record { texts = ts; limit = asked.limit; batch = asked.batch }) own_routes all) texts
      (subst (λ told_all. HasExecuted (record { texts = take (length asked.texts) asked.texts; limit = asked.limit; batch = asked.batch }) own_routes told_all) tallied run) in
      leaves_whole all whole_run one whole is

pub shares_are_apart : FeedsStandAlone → EntriesOfVisits → TableByEntry → SharesAreApart
shares_are_apart alone law by_entry asked dealt tables tallies shares = are_apart alone law by_entry asked dealt tables tallies shares

pub shares_are_one_run : FeedsStandAlone → EntriesOfVisits → TableByEntry → OneTableOfSet → SharesAreOneRun
shares_are_one_run alone law by_entry one asked dealt tables tallies whole all some shares is told =
    one_run alone law by_entry asked dealt tables tallies shares one whole all some is told
