-- The ranges from an address on.
use Rattle.std.specs.Prelude.{◌≡◌, ℕ, ◌+◌, ◌^◌, ◌<◌, ◌≤◌, List, All, Any}
use Rattle.std.specs.List.{AllPairs}
use Rattle.rt_cidr.specs.declared.address.Addr.{Addr}
use Rattle.rt_diff.specs.declared.table_answers.CompareBy.{CompareBy}
use Rattle.rt_diff.specs.declared.comparison.Difference.{Difference}
use Rattle.rt_diff.specs.Answers.{RenumberedTable}
use Rattle.rt_diff.specs.Differences.{IsAlike, IsWithin, IsDifference, HaveSameAnswers}

-- as `AreDifferences`, without the addresses before this one
pub record AreRest (by : CompareBy) (old new : RenumberedTable) (from : ℕ) (list : List Difference) : Type 0 where
  pub onward : All (λ d. from ≤ d.first.0) list
  pub each : All (IsDifference by old new) list
  pub all : (addr : Addr) → from ≤ addr.0 → addr.0 < 2 ^ 32 → ¬ IsAlike by old new addr → Any (λ d. IsWithin d addr) list
  pub rising : AllPairs (λ c d. c.last.0 < d.first.0) list
  pub fewest : AllPairs (λ c d. c.last.0 + 1 ≡ d.first.0 → ¬ HaveSameAnswers c d) list
