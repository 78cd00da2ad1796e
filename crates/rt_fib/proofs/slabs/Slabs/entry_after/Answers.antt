use Rattle.std.proofs.Common.{◌<◌, ◌^◌, arith}
use Rattle.rt_fib.proofs.Changing.{entry_goes}
use Rattle.rt_fib.proofs.slabs.Slabs.entry_after.Goals as goal

pub returns-then-entry-last-clause-leads : goal.returns-then-entry-last-clause-leads
returns-then-entry-last-clause-leads g c =
    let below : c.args.last.entry < 2 ^ 31 = omega (arith, c.if-entry-ge-GROUP_FLAG.false, c.if-entry-last.true) in
    rw c.if-entry-last.true (entry_goes _ _ _ c.args.last.entry c.args.last.after c.args.change.now below (c.requires.last below))

pub returns-clause-leads : goal.returns-clause-leads
returns-clause-leads g c = entry_goes _ _ _ c.args.entry _ c.args.change.now c.if-entry-ge-GROUP_FLAG.false c.number_after-after.ensures
