use Rattle.ya_lock.proofs.TreeSize.{bell_in}
use Rattle.ya_lock.proofs.tree_lock.TreeLock.nap.Goals as goal

pub park_timeout-requires : goal.park_timeout-requires
park_timeout-requires g c =
    bell_in c.self.inside.table.shared.table_id g.row.L c.args.place c.bell.result c.self.invariant.words c.requires.place
    c.bell.ensures
