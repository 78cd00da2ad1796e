use Rattle.std.proofs.Common.{refl}
use Rattle.rt_rib.proofs.table.Table.holds.Goals as goal

pub returns : goal.returns
returns g c =
    rw (← c.self.view_is)
    (record { lawful = c.nodes.ensures.lawful; map = c.nodes.ensures.map; exactly = refl; once = c.self.invariant.table })
