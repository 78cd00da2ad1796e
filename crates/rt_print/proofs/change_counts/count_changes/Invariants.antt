use Rattle.std.proofs.Common.{◌≡◌, ◌<◌, take}
use Rattle.std.specs.List.{All, sum_by, count_by}
use Rattle.std.specs.Map.{values_of}
use Rattle.rt_print.specs.declared.change_counts.ChangeCount.{ChangeCount}
use Rattle.rt_print.specs.ChangeCounts.{HopTest, passes, passing_size, range_size, ranges_by, addresses_by}
use Rattle.rt_print.specs.inside.ChangeMaps.{AreKeyed, total_ranges, total_addresses}
use Rattle.rt_print.proofs.change_counts.count_changes.Given as goal

-- the ranges so far are counted
abbrev pub invariant-loop-difference : goal.invariant-loop-difference
invariant-loop-difference l =
    let done = take l.difference-index l.differences in record {
      keyed : AreKeyed l.counts.entries;
      ranges : (test : HopTest) → ranges_by test (values_of l.counts.entries) ≡ count_by (passes test) done;
      addresses : (test : HopTest) → addresses_by test (values_of l.counts.entries) ≡ passing_size test done;
      all_ranges : total_ranges l.counts.entries ≡ l.difference-index;
      all_addresses : total_addresses l.counts.entries ≡ sum_by range_size done;
      some : All (λ (c : ChangeCount). 0 < c.ranges) (values_of l.counts.entries);
    }
