-- The output of a comparison: the ranges of addresses for which the final tables of two runs give different answers.
use Rattle.std.specs.Prelude.{◌≡◌, ℕ, max, List, [], ◌∷◌, ◌++◌}
use Rattle.rt_rib.specs.declared.routes.Route.{Route}
use Rattle.rt_diff.specs.declared.comparison.Difference.{Difference}
use Rattle.rt_diff.specs.Answers.{RenumberedTable, own_numbers}
use Rattle.rt_diff.specs.Differences.{AreDifferences}
use Rattle.rt_print.specs.declared.change_counts.ChangeCount.{ChangeCount}
use Rattle.rt_print.specs.ChangeCounts.{AreChangeCounts, change_counts_as}
use Rattle.rt_print.specs.DifferenceText.{DiffContents, differences_as, differences_header}
use Rattle.rt_run.specs.declared.tallies.RejectedInput.{RejectedInput}
use Rattle.rt_run.specs.declared.tallies.RunSummary.{RunSummary}
use Rattle.rt_run.specs.RunText.{RunContents}
use Rattle.rt_run.specs.TableText.{tallies_status, LeavesTable}

-- the new table, its feeds identified by these numbers
abbrev pub renumbered_new : DiffContents → List Route → RenumberedTable
renumbered_new asked routes = record { routes = routes; numbers = asked.numbers }

-- 1 if the tables differ for some address, else 0
abbrev pub differ_status : List Difference → ℕ
differ_status [] = 0
differ_status (d ∷ list) = 1

-- the ranges for which the tables of two runs give different answers are printed in this way. The tallies are those of the old
-- run and then of the new one; the status is theirs, but at least 1 if there is a range
pub record IsComparison (asked : DiffContents) (old new : RunContents) (ArePrinted : List Difference → Type 0) (given : RunSummary) : Type 0 where
  pub old_table : List Route
  pub new_table : List Route
  pub old_tallies : List RejectedInput
  pub new_tallies : List RejectedInput
  pub old_left : LeavesTable old old_table old_tallies
  pub new_left : LeavesTable new new_table new_tallies
  pub tallied : given.tallies.items ≡ old_tallies ++ new_tallies
  pub list : List Difference
  pub differences : AreDifferences asked.by (own_numbers old_table) (renumbered_new asked new_table) list
  pub printed : ArePrinted list
  pub is_status : given.status ≡ max (differ_status list) (tallies_status given.tallies.items)

-- the header, which only CSV has, and the lines of these ranges
abbrev pub diff_text : DiffContents → List Difference → List ℕ
diff_text asked list = differences_header asked ++ differences_as asked list

-- the bytes are this text of these ranges
abbrev pub IsDiffText : DiffContents → RunContents → RunContents → List ℕ → RunSummary → Type 0
IsDiffText asked old new bytes given = IsComparison asked old new (λ list. bytes ≡ diff_text asked list) given

-- the bytes are the lines of the counts of these ranges
pub record TellsCounts (asked : DiffContents) (list : List Difference) (bytes : List ℕ) : Type 0 where
  pub counts : List ChangeCount
  pub counted : AreChangeCounts list counts
  pub printed : bytes ≡ change_counts_as asked counts

-- the bytes are the numbers of these ranges
abbrev pub IsCountText : DiffContents → RunContents → RunContents → List ℕ → RunSummary → Type 0
IsCountText asked old new bytes given = IsComparison asked old new (λ list. TellsCounts asked list bytes) given
