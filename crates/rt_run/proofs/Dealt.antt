-- Shares of a run's texts, each executed by itself: from the list of their results to tables and tallies of shares.
use Rattle.std.proofs.Common.{◌≡◌, ℕ, suc, ◌+◌, ◌<◌, ◌≤◌, inl, inr, List, [], ◌∷◌, ◌++◌, map, length, get_or, if◌then◌else◌, refl, sym, ap, subst, ◌∙◌, arith}
use Rattle.std.specs.Prelude.{Ok, Err, IsOk, All, alloc_error}
use Rattle.std.specs.declared.vec.Vec.{Vec}
use Rattle.std.specs.declared.alloc.Global.{Global}
use Rattle.std.proofs.lemmas.Bool.{cases_lt}
use Rattle.std.proofs.lemmas.List.{length-map, map_push, get_or-map, get_or_past, get_or_append_left, get_or_push}
use Rattle.std.proofs.lemmas.List.Elements.{All-push, All-get_or, All-from_get_or}
use Rattle.rt_rib.specs.declared.routes.Route.{Route}
use Rattle.rt_rib.specs.declared.commands.Entry.{Entry}
use Rattle.rt_rib.specs.Book.{TableContents}
use Rattle.rt_rib.specs.Table.{IsTable}
use Rattle.rt_rib.specs.Laws.{TableByEntry}
use Rattle.rt_tables.specs.Unions.{union_of, AreOfDifferentFeeds}
use Rattle.rt_tables.specs.Laws.{UnionIsTable, UnionHasTheirRoutes}
use Rattle.rt_feed.specs.Lines.{LineOutcome, report_lines}
use Rattle.rt_run.specs.declared.tallies.RejectedInput.{RejectedInput}
use Rattle.rt_run.specs.RunText.{InputContents, RunContents, in_batches, ExplainsFrom}
use Rattle.rt_run.specs.TableText.{tally_of, has_faulty, LeavesTable, IsGivenBack}
use Rattle.rt_run.specs.Shares.{share_with, is_of_other, AreShares, IsTableOfAll}
use Rattle.rt_run.specs.inside.Runs.{LeavesInAnyBatches, part_of, PartRun, EndsPart, EndEachPart, EndEach, routes_left, tallies_left, part_left, AreOfRuns, AreTalliesOfEach, IsGivenBackByShares}
use Rattle.rt_run.proofs.Lists.{map_more}
use Rattle.rt_run.proofs.KeptTexts.{kept_length}
use Rattle.rt_run.proofs.Shares.{has_text_at}

-- a run of texts has a tally for each
as_many_outcomes : (batch feed : ℕ) (journal : List Entry) (texts : List (List ℕ)) (outcomes : List (List LineOutcome)) → ExplainsFrom batch feed journal texts outcomes
    → length outcomes ≡ length texts
as_many_outcomes batch feed journal [] [] is = refl
as_many_outcomes batch feed journal (text ∷ texts) (lines ∷ outcomes) is = ap suc (as_many_outcomes batch (feed + 1) journal texts outcomes is.1)
as_many_outcomes batch feed journal texts outcomes is = absurd is

pub as_many_tallies : (asked : RunContents) (table : List Route) (tallies : List RejectedInput) → LeavesTable asked table tallies → length tallies ≡ length asked.texts
as_many_tallies asked table tallies left =
    ap length left.tallied
    ∙ (length-map (map (report_lines 1) left.outcomes) tally_of
    ∙ (length-map left.outcomes (report_lines 1) ∙ as_many_outcomes asked.batch 1 left.journal asked.texts left.outcomes left.history.explained))

-- what a part left that didn't run out of memory
left_by_ran : (part : InputContents) (run : PartRun) → IsOk run → EndsPart part run
    → LeavesInAnyBatches part (routes_left run) (tallies_left run) × IsGivenBack part (tallies_left run) (part_left run)
left_by_ran part (Ok left) ran ended = ended
left_by_ran part (Err fault) ran ended = absurd (cc)

-- each text is in some share: one that isn't dealt is in the first
in_some_share : (dealt : List ℕ) (shares : ℕ) → 1 ≤ shares → All (λ share. share < shares) dealt → (k : ℕ) → share_with dealt k < shares
in_some_share dealt shares some each k = elim (cases_lt k (length dealt)) [
  | inl here ↦ All-get_or (λ share. share < shares) dealt k 0 here each
  | inr past ↦ omega (arith, some, get_or_past dealt k 0 past)
]

-- the part of each share was executed, memory ran out in none, and these are their tables, their tallies and the parts afterwards
pub record SharesEnd (input : InputContents) (dealt : List ℕ) (shares : ℕ) (tables : List (List Route)) (told : List (List RejectedInput)) (parts : List InputContents) : Type 0 where
  pub some : 1 ≤ shares
  pub each : All (λ share. share < shares) dealt
  pub runs : List PartRun
  pub counted : length runs ≡ shares
  pub ended : EndEach input dealt runs
  pub split : AreOfRuns runs tables told parts

-- the parts that were executed are those of the shares
pub shares_end : {input : InputContents} {dealt : List ℕ} {shares : ℕ} {runs : List PartRun} {tables : List (List Route)} {told : List (List RejectedInput)} {parts : List InputContents}
    (taken : List InputContents) → 1 ≤ shares → All (λ share. share < shares) dealt → length taken ≡ shares → length runs ≡ length taken
    → ((share : ℕ) (none : InputContents) → share < shares → get_or taken share none ≡ part_of input dealt share) → EndEachPart taken runs → AreOfRuns runs tables told parts
    → SharesEnd input dealt shares tables told parts
shares_end {input} {dealt} {shares} {runs} taken some each count same are ended split = record {
  some = some;
  each = each;
  runs = runs;
  counted = same ∙ count;
  ended = λ share none here.
      let within : share < shares = omega (arith, here, same, count) in
      subst (λ part. EndsPart part (get_or runs share none)) (are share input within) (ended share input none (omega (arith, within, count)));
  split = split;
}

module _ {input : InputContents} {dealt : List ℕ} {shares : ℕ} {tables : List (List Route)} {told : List (List RejectedInput)} {parts : List InputContents}
    (end : SharesEnd input dealt shares tables told parts) where
  left_at : (share : ℕ) → share < shares → LeavesInAnyBatches (part_of input dealt share) (get_or tables share []) (get_or told share [])
      × IsGivenBack (part_of input dealt share) (get_or told share []) (get_or parts share input)
  left_at share here =
      let none : PartRun = Err alloc_error in
      let within : share < length end.runs = omega (arith, end.counted, here) in
      rw (
        end.split.tables_left,
        end.split.told,
        end.split.parts_left,
        get_or-map routes_left end.runs share none [] within,
        get_or-map tallies_left end.runs share none [] within,
        get_or-map part_left end.runs share none input within,
      )
      (left_by_ran (part_of input dealt share) (get_or end.runs share none) (All-get_or IsOk end.runs share none within end.split.ran) (end.ended share none within))

  pub table_count : length tables ≡ shares
  table_count = ap length end.split.tables_left ∙ (length-map end.runs routes_left ∙ end.counted)

  tally_count : length told ≡ shares
  tally_count = ap length end.split.told ∙ (length-map end.runs tallies_left ∙ end.counted)

  pub part_count : length parts ≡ shares
  part_count = ap length end.split.parts_left ∙ (length-map end.runs part_left ∙ end.counted)

  pub are_shares : (batch : ℕ) → 1 ≤ batch → AreShares (in_batches batch input) dealt tables told
  are_shares batch any = record {
    dealt_to_some = λ k here. omega (arith, table_count, in_some_share dealt shares end.some end.each k);
    left = λ share here. (left_at share (omega (arith, table_count, here))).0 batch any;
  }

  pub are_tallies_of_each : AreTalliesOfEach (length input.texts) dealt told
  are_tallies_of_each = record {
    dealt_to_some = λ k here. omega (arith, tally_count, in_some_share dealt shares end.some end.each k);
    as_many = λ share here.
        as_many_tallies (in_batches 1 (part_of input dealt share)) (get_or tables share []) (get_or told share [])
        ((left_at share (omega (arith, tally_count, here))).0 1 (omega arith))
        ∙ kept_length (is_of_other dealt share) 1 input.texts;
  }

  -- each part still has a place for every text
  pub part_lengths : All (λ (part : InputContents). length part.texts ≡ length input.texts) parts
  part_lengths = All-from_get_or (λ (part : InputContents). length part.texts ≡ length input.texts) parts input (λ share here.
      (left_at share (omega (arith, part_count, here))).1.as_many ∙ kept_length (is_of_other dealt share) 1 input.texts)

  -- the texts that the parts still have were put back
  pub given_by_parts : (new : InputContents) → new.limit ≡ input.limit → length new.texts ≡ length input.texts
      → ((k : ℕ) (none : InputContents) → k < length input.texts → share_with dealt k < length parts
      → get_or new.texts k [] ≡ get_or (get_or parts (share_with dealt k) none).texts k []) → IsGivenBackByShares input dealt told new
  given_by_parts new limited as_many back = record {
    limited = limited;
    as_many = as_many;
    each = λ k none here.
        let share = share_with dealt k in
        let within : share < shares = in_some_share dealt shares end.some end.each k in
        let has : get_or (part_of input dealt share).texts k [] ≡ get_or input.texts k [] = has_text_at (in_batches 1 input) dealt share k refl in
        back k input here (omega (arith, part_count, within))
        ∙ ((left_at share within).1.each k none (omega (arith, here, kept_length (is_of_other dealt share) 1 input.texts))
        ∙ ap (λ text. if has_faulty (get_or (get_or told share []) k none) then text else []) has);
  }

-- the union of the tables of shares is the table of all their routes
pub whole_of_shares : TableByEntry → UnionIsTable → UnionHasTheirRoutes → (asked : RunContents) (dealt : List ℕ) (tables : List (List Route)) (told : List (List RejectedInput))
    → AreShares asked dealt tables told → AreOfDifferentFeeds tables → IsTableOfAll tables (union_of tables)
whole_of_shares by_entry is_table has_theirs asked dealt tables told shares apart =
    let is_left : (share : ℕ) → share < length tables → IsTable (get_or tables share []) =
    λ share here. subst IsTable (sym (shares.left share here).left) (by_entry.table asked.limit (shares.left share here).journal) in
    record {
      table = is_table tables (All-from_get_or IsTable tables [] is_left) apart;
      contains = has_theirs tables;
    }

-- one more run, which didn't run out of memory
pub split_more : (runs : List PartRun) (run : PartRun) (tables tables' : List (TableContents)) (told told' : List (Vec RejectedInput Global)) (parts parts' : List InputContents)
    (table : TableContents) (tallies : Vec RejectedInput Global) (part : InputContents) → AreOfRuns runs (map (λ t. t.routes) tables) (map (λ l. l.items) told) parts
    → run ≡ Ok (table, tallies, part) → tables' ≡ tables ++ table ∷ [] → told' ≡ told ++ tallies ∷ [] → parts' ≡ parts ++ part ∷ []
    → AreOfRuns (runs ++ run ∷ []) (map (λ t. t.routes) tables') (map (λ l. l.items) told') parts'
split_more runs run tables tables' told told' parts parts' table tallies part so_far is pushed also last =
    let routes_of : TableContents → List Route = λ t. t.routes in
    let items_of : Vec RejectedInput Global → List RejectedInput = λ l. l.items in
    record {
      ran = All-push (λ (r : PartRun). IsOk r) runs run so_far.ran (subst (λ (r : PartRun). IsOk r) (sym is) refl);
      tables_left = map_more routes_left (map routes_of tables) (map routes_of tables') runs run (routes_of table) so_far.tables_left
          (ap (map routes_of) pushed ∙ map_push routes_of tables table) (sym (ap routes_left is));
      told = map_more tallies_left (map items_of told) (map items_of told') runs run (items_of tallies) so_far.told
          (ap (map items_of) also ∙ map_push items_of told tallies) (sym (ap tallies_left is));
      parts_left = map_more part_left parts parts' runs run part so_far.parts_left last (sym (ap part_left is));
    }

-- the tallies at a place of a list of vectors
pub tallies_at : (told : List (Vec RejectedInput Global)) (share : ℕ) (one : Vec RejectedInput Global) → share < length told → one ≡ get_or told share one
    → get_or (map (λ tallies. tallies.items) told) share [] ≡ one.items
tallies_at told share one here is =
    get_or-map (λ (tallies : Vec RejectedInput Global). tallies.items) told share one [] here ∙ ap (λ (tallies : Vec RejectedInput Global). tallies.items) (sym is)

-- the tally of each text in its share
abbrev pub told_by : List (Vec RejectedInput Global) → List ℕ → ℕ → RejectedInput → RejectedInput
told_by told dealt k none = get_or (get_or (map (λ tallies. tallies.items) told) (share_with dealt k) []) k none

-- one more tally: each is the one that `of` gives for its place
pub told_more : (of : ℕ → RejectedInput → RejectedInput) (all all' : List RejectedInput) (n : ℕ) (tally : RejectedInput) → length all ≡ n
    → ((k : ℕ) (none : RejectedInput) → k < n → get_or all k none ≡ of k none) → all' ≡ all ++ tally ∷ [] → ((none : RejectedInput) → tally ≡ of n none)
    → (k : ℕ) (none : RejectedInput) → k < n + 1 → get_or all' k none ≡ of k none
told_more of all all' n tally count so_far pushed is k none here = elim (cases_lt k n) [
  | inl earlier ↦
      ap (λ l. get_or l k none) pushed
      ∙ (get_or_append_left all (tally ∷ []) none k (omega (arith, count, earlier)) ∙ so_far k none earlier)
  | inr last ↦
      let place : n ≡ k = omega (arith, here, last) in
      subst (λ i. get_or all' i none ≡ of i none) place
      (ap (λ l. get_or l n none) pushed ∙ (get_or_push all tally none n count ∙ is none))
]
