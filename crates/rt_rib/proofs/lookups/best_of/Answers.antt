use Rattle.rt_rib.proofs.lookups.best_of.Goals as goal

pub returns : goal.returns
returns g c = rw (← c.map.view_is) (c.best_at.ensures c.map.inside.trie.pairs c.args.addr c.map.invariant c.longest.ensures)
