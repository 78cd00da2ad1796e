-- The answers to questions and the output of a comparison don't depend on the interleaving of the feeds' visits.
use Rattle.std.proofs.Common.{List, ◌++◌, Bool, true, false, ◌||◌, refl, ap, sym, subst, ◌∙◌, ◌≡◌}
use Rattle.std.specs.List.{list_any}
use Rattle.std.proofs.lemmas.List.Folds.{list_any-append}
use Rattle.rt_feed.specs.Addresses.{AddressRow}
use Rattle.rt_feed.specs.Laws.{AddressTextHasOneReading}
use Rattle.rt_run.specs.declared.tallies.RejectedInput.{RejectedInput}
use Rattle.rt_run.specs.TableText.{question_text, has_refused, NoneRefused, IsQueryOutput}
use Rattle.rt_run.specs.SameTable.{ShowOneTable, AnswerOnce, LeavesUnion, HaveOneUnion, HaveSameTallies, HaveSameInput, TellsUnions, DiffsUnions, CountsUnions, DiffOnce, CountOnce}
use Rattle.rt_diff.specs.Answers.{own_numbers}
use Rattle.rt_diff.specs.Differences.{AreDifferences}
use Rattle.rt_diff.specs.Laws.{HaveOneList}
use Rattle.rt_diff.specs.declared.comparison.Difference.{Difference}
use Rattle.rt_print.specs.DifferenceText.{DiffContents}
use Rattle.rt_print.specs.ChangeCounts.{AreChangeCounts, HaveOneCountList, change_counts_as}
use Rattle.rt_run.specs.declared.tallies.RunSummary.{RunSummary}
use Rattle.rt_run.specs.RunText.{RunContents}
use Rattle.rt_run.specs.DiffText.{renumbered_new, diff_text, IsComparison}
use Rattle.rt_run.proofs.Asked.{asks_about_the_same}
use Rattle.rt_run.proofs.SameTables.{left_union, say_the_same}

both_false : (a b : Bool) → (a || b) ≡ false → (a ≡ false) × (b ≡ false)
both_false true b h = absurd cc
both_false false b h = (refl, h)

-- if no command of both runs was refused, none of either was
none_of_either : (one other : List RejectedInput) → NoneRefused (one ++ other) → NoneRefused one × NoneRefused other
none_of_either one other none = both_false (list_any has_refused one) (list_any has_refused other) (sym (list_any-append has_refused one other) ∙ none)

pub answers_are_deterministic : ShowOneTable → AddressTextHasOneReading → AnswerOnce
answers_are_deterministic shows once one one' style question bytes bytes' given given' same is is' none none' =
    let text_of = question_text style question in
    let read = asks_about_the_same once question is.rows is'.rows is.others is'.others is.asks is'.asks in
    let also = subst (λ (rows : List AddressRow). IsQueryOutput one' (text_of rows) bytes' is'.tallies) (sym read.0) is'.shown in
    let both = shows one one' (text_of is.rows) bytes bytes' is.tallies is'.tallies same is.shown also
    (none_of_either is.tallies _ (subst NoneRefused is.tallied none)).0 (none_of_either is'.tallies _ (subst NoneRefused is'.tallied none')).0 in
    let tallied : given.tallies.items ≡ given'.tallies.items = cc (is.tallied, is'.tallied, both.1, read.1) in
    (both.0, cc (is.is_status, is'.is_status, tallied), tallied)

unions_told : LeavesUnion → (asked : DiffContents) (old new : RunContents) (ArePrinted : List Difference → Type 0) (given : RunSummary)
    → IsComparison asked old new ArePrinted given → NoneRefused given.tallies.items → TellsUnions asked old new ArePrinted
unions_told leaves asked old new ArePrinted given is none =
    let (old_none, new_none) = none_of_either is.old_tallies is.new_tallies (subst NoneRefused is.tallied none) in
    record {
      old_union = is.old_table;
      new_union = is.new_table;
      of_old = left_union leaves old is.old_table is.old_tallies is.old_left old_none;
      of_new = left_union leaves new is.new_table is.new_tallies is.new_left new_none;
      list = is.list;
      differences = is.differences;
      printed = is.printed;
    }

pub diffs_unions : LeavesUnion → DiffsUnions
diffs_unions leaves asked old new bytes given = unions_told leaves asked old new _ given

pub counts_unions : LeavesUnion → CountsUnions
counts_unions leaves asked old new bytes given = unions_told leaves asked old new _ given

-- two comparisons of the same texts and limits have the same differences, statuses and tallies
module _ (leaves : LeavesUnion) (one : HaveOneUnion) (one_list : HaveOneList) (have_same : HaveSameTallies) (asked : DiffContents) (old old' new new' : RunContents)
    (ArePrinted ArePrinted' : List Difference → Type 0) (given given' : RunSummary) (same_old : HaveSameInput old old') (same_new : HaveSameInput new new')
    (is : IsComparison asked old new ArePrinted given) (is' : IsComparison asked old' new' ArePrinted' given') where
  same_comparison : NoneRefused given.tallies.items → NoneRefused given'.tallies.items
      → (is.list ≡ is'.list) × (given.status ≡ given'.status) × (given.tallies.items ≡ given'.tallies.items)
  same_comparison none none' =
      let (old_none, new_none) = none_of_either is.old_tallies is.new_tallies (subst NoneRefused is.tallied none) in
      let (old_none', new_none') = none_of_either is'.old_tallies is'.new_tallies (subst NoneRefused is'.tallied none') in
      let old_tables : is'.old_table ≡ is.old_table = one old.texts old.limit is'.old_table is.old_table
      (rw (same_old.0, same_old.1) (left_union leaves old' is'.old_table is'.old_tallies is'.old_left old_none'))
      (left_union leaves old is.old_table is.old_tallies is.old_left old_none) in
      let new_tables : is'.new_table ≡ is.new_table = one new.texts new.limit is'.new_table is.new_table
      (rw (same_new.0, same_new.1) (left_union leaves new' is'.new_table is'.new_tallies is'.new_left new_none'))
      (left_union leaves new is.new_table is.new_tallies is.new_left new_none) in
      let also : AreDifferences asked.by (own_numbers is.old_table) (renumbered_new asked is.new_table) is'.list =
      rw (old_tables, new_tables) at is'.differences in
      let same : is.list ≡ is'.list = one_list asked.by (own_numbers is.old_table) (renumbered_new asked is.new_table) is.list is'.list is.differences also in
      let said_old = say_the_same have_same old old' is.old_table is'.old_table is.old_tallies is'.old_tallies same_old is.old_left is'.old_left old_none old_none' in
      let said_new = say_the_same have_same new new' is.new_table is'.new_table is.new_tallies is'.new_tallies same_new is.new_left is'.new_left new_none new_none' in
      let tallied : given.tallies.items ≡ given'.tallies.items = cc (is.tallied, is'.tallied, said_old, said_new) in (
        same,
        cc (is.is_status, is'.is_status, same, tallied),
        tallied,
      )

pub diff_output_is_deterministic : LeavesUnion → HaveOneUnion → HaveOneList → HaveSameTallies → DiffOnce
diff_output_is_deterministic leaves one one_list have_same asked old old' new new' bytes bytes' given given' same_old same_new is is' none none' =
    let (same, status, tallied) = same_comparison leaves one one_list have_same asked old old' new new' _ _ given given' same_old same_new is is' none none' in
    (is.printed ∙ (ap (diff_text asked) same ∙ sym is'.printed), status, tallied)

pub count_output_is_deterministic : LeavesUnion → HaveOneUnion → HaveOneList → HaveSameTallies → HaveOneCountList → CountOnce
count_output_is_deterministic leaves one one_list have_same one_count asked old old' new new' bytes bytes' given given' same_old same_new is is' none none' =
    let (same, status, tallied) = same_comparison leaves one one_list have_same asked old old' new new' _ _ given given' same_old same_new is is' none none' in
    let counts = one_count is.list is.printed.counts is'.printed.counts is.printed.counted
    (subst (λ (list : List Difference). AreChangeCounts list is'.printed.counts) (sym same) is'.printed.counted) in
    (is.printed.printed ∙ (ap (change_counts_as asked) counts ∙ sym is'.printed.printed), status, tallied)
