use Rattle.rt_rib.specs.Maps.{routes_of}
use Rattle.rt_rib.proofs.Counts.{AreCounts-own}
use Rattle.rt_rib.proofs.table.Table.count.Goals as goal

pub returns : goal.returns
returns g c =
    rw (← c.self.view_is)
    (AreCounts-own c.self.inside.limit c.self.inside.counts (routes_of c.self.inside.map.pairs) c.args.feed c.self.invariant.counted c.requires)
