-- The output of a comparison: the lines of the differences so far, and then the lines of the rest.
use Rattle.rt_run.proofs.Outputs.{first-some}
use Rattle.std.proofs.Common.{suc, ◌≡◌, ◌==◌, true, ℕ, ◌+◌, ◌^◌, ◌<◌, ◌≤◌}
use Rattle.std.proofs.Common.{List, [], ◌∷◌, length, refl, arith}
use Rattle.std.specs.List.{All, AllPairs, sum_by, count_by}
use Rattle.std.proofs.lemmas.Grind.{common_steps}
use Rattle.std.proofs.lemmas.Bool.Decides.{nat_tests}
use Rattle.std.proofs.lemmas.List.Elements.{All-head, All-tail}
use Rattle.std.proofs.lemmas.List.Sums.{sum_by-cons, count_by-le-length}
use Rattle.rt_diff.specs.declared.comparison.Difference.{Difference}
use Rattle.rt_diff.specs.declared.table_answers.CompareBy.{CompareBy}
use Rattle.rt_diff.specs.Answers.{RenumberedTable, own_numbers}
use Rattle.rt_diff.specs.Differences.{IsDifference, AreDifferences}
use Rattle.rt_print.specs.declared.format.Syntax.{Syntax}
use Rattle.rt_print.specs.declared.format.Syntax.TheVariants.{Line, Json, Csv}
use Rattle.rt_print.specs.DifferenceText.{DiffContents, differences_as}
use Rattle.rt_print.proofs.Promised.{difference-some}
use Rattle.rt_run.specs.declared.tallies.RunSummary.{RunSummary}
use Rattle.rt_run.specs.RunText.{RunContents}
use Rattle.rt_print.specs.declared.change_counts.ChangeCount.{ChangeCount}
use Rattle.rt_print.specs.ChangeCounts.{passes, range_size, ranges_by, addresses_by, number_as, sums_as, AreChangeCounts, change_counts_as}
use Rattle.rt_run.specs.DiffText.{renumbered_new, IsComparison}

-- there is a line if and only if there is a difference
pub lines-empty : (asked : DiffContents) (old new : RenumberedTable) (list : List Difference) → AreDifferences asked.by old new list
    → (length list == 0) ≡ (length (differences_as asked list) == 0)
lines-empty asked old new [] are = refl
lines-empty asked old new (d ∷ rest) are =
    let one = All-head (IsDifference asked.by old new) d rest are.each in
    let some = difference-some asked d (differences_as asked rest) one.some one.fits in
    grind (arith, nat_tests)

-- the ranges of a list of differences have at most all addresses
sizes_from : (from : ℕ) (list : List Difference) → All (λ (d : Difference). (d.first.0 ≤ d.last.0) × (d.last.0 < 2 ^ 32)) list → All (λ (d : Difference). from ≤ d.first.0) list
    → AllPairs (λ (c d : Difference). c.last.0 < d.first.0) list → from ≤ 2 ^ 32 → sum_by range_size list + from ≤ 2 ^ 32
sizes_from from [] some later rising fits = omega (arith, fits)
sizes_from from (d ∷ list) some later rising fits =
    let here = All-head (λ (d : Difference). (d.first.0 ≤ d.last.0) × (d.last.0 < 2 ^ 32)) d list some in
    let onward = All-head (λ (d : Difference). from ≤ d.first.0) d list later in
    let rest = sizes_from (d.last.0 + 1) list (All-tail (λ (d : Difference). (d.first.0 ≤ d.last.0) × (d.last.0 < 2 ^ 32)) d list some)
    (λ k e inside. let above = rising 0 (suc k) e (omega arith) (omega (arith, inside)) in omega (arith, above))
    (λ i j e before inside. rising (suc i) (suc j) e (omega (arith, before)) (omega (arith, inside))) (omega (arith, here.1)) in
    let sum = sum_by-cons range_size d list in
    omega (arith, here.0, onward, rest, sum)

pub sizes_fit : {by : CompareBy} {old new : RenumberedTable} {list : List Difference} → AreDifferences by old new list → sum_by range_size list ≤ 2 ^ 32
sizes_fit {by} {old} {new} {list} are =
    let all = sizes_from 0 list (λ k d inside. let one = are.each k d inside in (one.some, one.fits)) (λ k d inside. omega arith) are.rising (omega arith) in
    omega (arith, all)

pub each_some : {by : CompareBy} {old new : RenumberedTable} {list : List Difference} → AreDifferences by old new list → All (λ (d : Difference). d.first.0 ≤ d.last.0) list
each_some are k d inside = (are.each k d inside).some

-- each range has an address
ranges_below : (list : List Difference) → All (λ (d : Difference). d.first.0 ≤ d.last.0) list → length list ≤ sum_by range_size list
ranges_below [] some = omega arith
ranges_below (d ∷ list) some =
    let here = All-head (λ (d : Difference). d.first.0 ≤ d.last.0) d list some in
    let rest = ranges_below list (All-tail (λ (d : Difference). d.first.0 ≤ d.last.0) d list some) in
    let sum = sum_by-cons range_size d list in
    omega (arith, here, rest, sum)

-- so do the sums of their counts
ranges_fit : (list : List Difference) (counts : List ChangeCount) → AreChangeCounts list counts → sum_by (λ (c : ChangeCount). c.ranges) counts ≤ length list
ranges_fit list counts are =
    let all : sum_by (λ (c : ChangeCount). c.ranges) counts ≡ count_by (passes (λ old new. true)) list = are.ranges (λ old new. true) in
    omega (arith, all, count_by-le-length (passes (λ old new. true)) list)

addresses_fit : (list : List Difference) (counts : List ChangeCount) → AreChangeCounts list counts → sum_by range_size list ≤ 2 ^ 32
    → sum_by (λ (c : ChangeCount). c.addresses) counts ≤ 2 ^ 32
addresses_fit list counts are fits =
    let all : sum_by (λ (c : ChangeCount). c.addresses) counts ≡ sum_by range_size list = are.addresses (λ old new. true) in
    omega (arith, all, fits)

-- hence both sums are below 2^64
pub sums_fit : {by : CompareBy} {old new : RenumberedTable} {list : List Difference} {counts : List ChangeCount} → AreDifferences by old new list → AreChangeCounts list counts
    → (sum_by (λ (c : ChangeCount). c.ranges) counts < 2 ^ 64) × (sum_by (λ (c : ChangeCount). c.addresses) counts < 2 ^ 64)
sums_fit {by} {old} {new} {list} {counts} are counted =
    let sizes = sizes_fit are in (
      omega (arith, ranges_fit list counts counted, ranges_below list (each_some are), sizes),
      omega (arith, addresses_fit list counts counted sizes),
    )

-- the counts have a first line
number-some : (syntax : Syntax) (ranges addresses : ℕ) → 0 < length (number_as syntax [] ranges addresses)
unfolding number_as
number-some Line ranges addresses = grind (arith, common_steps)
number-some Json ranges addresses = grind (arith, common_steps)
number-some Csv ranges addresses = grind (arith, common_steps)

pub changes-some : (asked : DiffContents) (counts : List ChangeCount) → 0 < length (change_counts_as asked counts)
unfolding change_counts_as
changes-some asked counts =
    first-some (sums_as asked.old.syntax [] (λ old new. true) counts) _
    (number-some asked.old.syntax (ranges_by (λ old new. true) counts) (addresses_by (λ old new. true) counts))

-- a comparison that found this list
module _ {asked : DiffContents} {old_asked new_asked : RunContents} {list : List Difference} {given : RunSummary}
    (is : IsComparison asked old_asked new_asked (λ found. found ≡ list) given) where
  pub these_differ : AreDifferences asked.by (own_numbers is.old_table) (renumbered_new asked is.new_table) list
  these_differ = rw is.printed at is.differences

  -- its output is that of two runs, if the list is printed in this way
  pub are_printed : (ArePrinted : List Difference → Type 0) → ArePrinted list → IsComparison asked old_asked new_asked ArePrinted given
  are_printed ArePrinted printed = record {
    old_table = is.old_table;
    new_table = is.new_table;
    old_tallies = is.old_tallies;
    new_tallies = is.new_tallies;
    old_left = is.old_left;
    new_left = is.new_left;
    tallied = is.tallied;
    list = list;
    differences = these_differ;
    printed = printed;
    is_status = rw is.printed at is.is_status;
  }
