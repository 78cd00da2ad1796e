use Rattle.ya_lock.proofs.TreeSize.{bell_in}
use Rattle.ya_lock.proofs.tree_lock.TreeLock.wake.Goals as goal

pub wake_one-requires : goal.wake_one-requires
wake_one-requires g c =
    bell_in c.self.inside.table.shared.table_id g.row.L c.args.rival c.bell.result c.self.invariant.words c.requires
    c.bell.ensures
