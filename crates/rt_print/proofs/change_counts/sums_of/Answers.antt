use Rattle.std.proofs.Common.{arith}
use Rattle.rt_print.specs.declared.change_counts.ChangeCount.{ChangeCount}
use Rattle.rt_print.specs.inside.ChangeMaps.{test_of}
use Rattle.rt_print.proofs.ChangeMaps.{part_fits}
use Rattle.rt_print.proofs.change_counts.sums_of.Goals as goal

pub overflow_add-ranges : goal.overflow_add-ranges
overflow_add-ranges c =
    let fits = part_fits (λ (b : ChangeCount). b.ranges) (test_of c.args.kind) c.args.counts.now c.loop-count.count-index c.loop-count-test.true in
    omega (arith, c.loop-count.invariant.ranges, c.requires.ranges, fits)

pub overflow_add-addresses : goal.overflow_add-addresses
overflow_add-addresses c =
    let fits = part_fits (λ (b : ChangeCount). b.addresses) (test_of c.args.kind) c.args.counts.now c.loop-count.count-index c.loop-count-test.true in
    omega (arith, c.loop-count.invariant.addresses, c.requires.addresses, fits)
