use Rattle.std.proofs.Common.{◌-◌, refl}
use Rattle.rt_fib.proofs.Changing.{group_goes}
use Rattle.rt_fib.proofs.slabs.Slabs.change_group.Goals as goal

pub returns-clause-leads : goal.returns-clause-leads
returns-clause-leads g c =
    group_goes _ _ c.args.epoch.number c.args.i c.args.entry _ _ _ c.requires.long c.get.ensures
    c.numbers_after-numbers.ensures refl c.replace.ensures.epochs c.replace.ensures.values
