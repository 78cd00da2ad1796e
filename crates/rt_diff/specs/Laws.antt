-- Theorems about any two tables.
use Rattle.std.specs.Prelude.{◌≡◌, List}
use Rattle.rt_diff.specs.declared.table_answers.CompareBy.{CompareBy}
use Rattle.rt_diff.specs.declared.comparison.Difference.{Difference}
use Rattle.rt_diff.specs.Answers.{RenumberedTable}
use Rattle.rt_diff.specs.Differences.{AreDifferences}

-- two tables have a list of their differences
abbrev pub HaveDifferences : Type 0
HaveDifferences = (by : CompareBy) (old new : RenumberedTable) → (list : List Difference) × AreDifferences by old new list

-- and they have only one
abbrev pub HaveOneList : Type 0
HaveOneList =
    (by : CompareBy) (old new : RenumberedTable) (one other : List Difference) → AreDifferences by old new one → AreDifferences by old new other → one ≡ other
