use Rattle.rt_rib.proofs.ChangesOfPurges.{purge_changes_are, purge_few}
use Rattle.rt_rib.proofs.changes.PurgeChanges.new.Goals as goal

pub returns-clause-changes : goal.returns-clause-changes
returns-clause-changes g c =
    rw (← c.map.view_is, c.walk.ensures.pairs) (purge_changes_are c.args.feed c.map.inside.trie.pairs c.map.invariant)

pub returns-clause-few : goal.returns-clause-few
returns-clause-few g c = rw (← c.map.view_is, c.walk.ensures.pairs) (purge_few c.args.feed c.map.inside.trie.pairs)
