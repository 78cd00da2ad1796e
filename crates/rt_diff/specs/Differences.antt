-- The ranges of addresses that have different answers in two tables. An address is a number below 2^32.
use Rattle.std.specs.Prelude.{◌≡◌, ◌≢◌, ◌+◌, ◌^◌, ◌<◌, ◌≤◌, List, All, Any, Option, None, Some}
use Rattle.std.specs.List.{AllPairs}
use Rattle.rt_cidr.specs.declared.address.Addr.{Addr}
use Rattle.rt_diff.specs.declared.table_answers.CompareBy.{CompareBy}
use Rattle.rt_diff.specs.declared.table_answers.TableAnswer.{TableAnswer}
use Rattle.rt_diff.specs.declared.comparison.Difference.{Difference}
use Rattle.rt_diff.specs.Answers.{RenumberedTable, answer_of}

-- the tables give these answers for the address
abbrev pub HasAnswers : CompareBy → RenumberedTable → RenumberedTable → Addr → TableAnswer → TableAnswer → Type 0
HasAnswers by old new addr of_old of_new = (answer_of by addr old ≡ of_old) × (answer_of by addr new ≡ of_new)

-- the tables give the same answer for the address
abbrev pub IsAlike : CompareBy → RenumberedTable → RenumberedTable → Addr → Type 0
IsAlike by old new addr = answer_of by addr old ≡ answer_of by addr new

-- the address is in the range
abbrev pub IsWithin : Difference → Addr → Type 0
IsWithin d addr = (d.first.0 ≤ addr.0) × (addr.0 ≤ d.last.0)

-- the range has an address, all its numbers are addresses, each has these two answers, and the answers differ
pub record IsDifference (by : CompareBy) (old new : RenumberedTable) (d : Difference) : Type 0 where
  pub some : d.first.0 ≤ d.last.0
  pub fits : d.last.0 < 2 ^ 32
  pub each : (addr : Addr) → IsWithin d addr → HasAnswers by old new addr d.old d.new
  pub differ : d.old ≢ d.new

-- the first range from an address on: each address before it has the same answer in both tables, and the address after
-- it, if there is one, hasn't both of its answers
pub record IsNextDifference (by : CompareBy) (old new : RenumberedTable) (from : Addr) (d : Difference) : Type 0 where
  pub onward : from.0 ≤ d.first.0
  pub before : (addr : Addr) → from.0 ≤ addr.0 → addr.0 < d.first.0 → IsAlike by old new addr
  pub difference : IsDifference by old new d
  pub longest : (addr : Addr) → addr.0 ≡ d.last.0 + 1 → addr.0 < 2 ^ 32 → ¬ HasAnswers by old new addr d.old d.new

-- this range, or every address from this one on has the same answer in both tables
abbrev pub IsFirstDifference : CompareBy → RenumberedTable → RenumberedTable → Addr → Option Difference → Type 0
IsFirstDifference by old new from None = (addr : Addr) → from.0 ≤ addr.0 → addr.0 < 2 ^ 32 → IsAlike by old new addr
IsFirstDifference by old new from (Some d) = IsNextDifference by old new from d

-- a comparison as contracts see it: how answers are compared, and the routes of both tables
pub record Compared : Type 0 where
  pub by : CompareBy
  pub old_table : RenumberedTable
  pub new_table : RenumberedTable

-- the ranges have the same two answers
abbrev pub HaveSameAnswers : Difference → Difference → Type 0
HaveSameAnswers c d = (c.old ≡ d.old) × (c.new ≡ d.new)

-- the list of all ranges: the two answers of a range are those of its addresses, and differ; every address with
-- different answers is in a range; the ranges rise, and adjacent ones don't have the same two answers
pub record AreDifferences (by : CompareBy) (old new : RenumberedTable) (list : List Difference) : Type 0 where
  pub each : All (IsDifference by old new) list
  pub all : (addr : Addr) → addr.0 < 2 ^ 32 → ¬ IsAlike by old new addr → Any (λ d. IsWithin d addr) list
  pub rising : AllPairs (λ c d. c.last.0 < d.first.0) list
  pub fewest : AllPairs (λ c d. c.last.0 + 1 ≡ d.first.0 → ¬ HaveSameAnswers c d) list
