use Rattle.std.proofs.Common.{◌≡◌, take}
use Rattle.rt_print.specs.ChangeCounts.{ranges_by, addresses_by}
use Rattle.rt_print.specs.inside.ChangeMaps.{test_of}
use Rattle.rt_print.proofs.change_counts.sums_of.Given as goal

-- the sums so far
abbrev pub invariant-loop-count : goal.invariant-loop-count
invariant-loop-count l = record {
  ranges : l.ranges ≡ ranges_by (test_of l.kind) (take l.count-index l.counts);
  addresses : l.addresses ≡ addresses_by (test_of l.kind) (take l.count-index l.counts);
}
