use Rattle.std.proofs.Common.{rules}
use Rattle.ya_lock.proofs.tree_lock.TreeLock.close.Goals as goal

pub returns : goal.returns
returns g c = search rules
