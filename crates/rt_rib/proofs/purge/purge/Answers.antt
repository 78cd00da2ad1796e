use Rattle.rt_rib.proofs.Purges.{purged_routes, purged_map}
use Rattle.rt_rib.proofs.purge.purge.Goals as goal

pub invariant_of-map : goal.invariant_of-map
invariant_of-map g c =
    purged_map _ c.retain.new.filter c.map.inside.trie.pairs c.retain.new.self.pairs c.retain.ensures.retained c.map.invariant
    c.retain.ensures.ordered

pub returns : goal.returns
returns g c =
    rw (← c.map.view_is) (purged_routes _ c.retain.new.filter c.map.inside.trie.pairs c.retain.new.self.pairs c.retain.ensures.retained
    (rw (← c.map.view_is) at c.requires))
