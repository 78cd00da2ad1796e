-- The counts of ranges in a map by the positions of their next hops.
use Rattle.std.specs.Prelude.{◌≡◌, ℕ, ◌+◌, ◌<◌, ◌==◌, true, if◌then◌else◌, List, All, sum_by, Option, None, Some}
use Rattle.std.specs.Map.{values_of}
use Rattle.rt_diff.specs.declared.comparison.Difference.{Difference}
use Rattle.rt_print.specs.declared.change_counts.ChangeCount.{ChangeCount}
use Rattle.rt_print.specs.ChangeCounts.{HopTest, passes, range_size, ranges_by, addresses_by, hop_position, kind_of}

-- entries of such a map
abbrev pub Entries : Type 0
Entries = List ((ℕ × ℕ) × ChangeCount)

-- the key is the positions of the count's next hops, and the count has a range
abbrev pub IsKeyed : (ℕ × ℕ) × ChangeCount → Type 0
IsKeyed e = (e.0.0 ≡ hop_position e.1.old) × (e.0.1 ≡ hop_position e.1.new)

abbrev pub AreKeyed : Entries → Type 0
AreKeyed entries = All IsKeyed entries

-- the numbers of all ranges and addresses
abbrev pub total_ranges : Entries → ℕ
total_ranges entries = sum_by (λ (c : ChangeCount). c.ranges) (values_of entries)

abbrev pub total_addresses : Entries → ℕ
total_addresses entries = sum_by (λ (c : ChangeCount). c.addresses) (values_of entries)

-- the range is counted too
pub record CountsOneMore (d : Difference) (old new : Entries) : Type 0 where
  pub keyed : AreKeyed new
  pub ranges : (test : HopTest) → ranges_by test (values_of new) ≡ ranges_by test (values_of old) + (if passes test d then 1 else 0)
  pub addresses : (test : HopTest) → addresses_by test (values_of new) ≡ addresses_by test (values_of old) + (if passes test d then range_size d else 0)
  pub all_ranges : total_ranges new ≡ total_ranges old + 1
  pub all_addresses : total_addresses new ≡ total_addresses old + range_size d
  pub some : All (λ (c : ChangeCount). 0 < c.ranges) (values_of old) → All (λ (c : ChangeCount). 0 < c.ranges) (values_of new)

-- the counts of this kind, or all of them
abbrev pub test_of : Option ℕ → HopTest
test_of None old new = true
test_of (Some kind) old new = kind_of old new == kind
