use Rattle.rt_rib.proofs.Counts.{AreCounts-own}
use Rattle.rt_rib.proofs.TableChanges.{purged_counted, purged_serves}
use Rattle.rt_rib.specs.Maps.{routes_of}
use Rattle.rt_rib.proofs.table.Table.purge_rest.Goals as goal

pub purge-requires : goal.purge-requires
purge-requires g c =
    AreCounts-own c.self.inside.limit c.self.inside.counts (routes_of c.self.inside.map.pairs) c.args.feed c.self.invariant.counted c.requires

pub invariant_of-self : goal.invariant_of-self
invariant_of-self g c =
    purged_counted c.self.inside.limit c.self.inside.counts c.self.inside.map.pairs c.self.invariant c.self.told
    c.args.feed c.requires c.purge.new.map.pairs c.purge.ensures

pub returns : goal.returns
returns g c =
    rw (← c.self.view_is)
    (purged_serves c.self.inside.limit c.self.inside.counts c.self.inside.map.pairs c.self.invariant c.self.told
    c.args.feed c.requires c.purge.new.map.pairs c.purge.ensures)
