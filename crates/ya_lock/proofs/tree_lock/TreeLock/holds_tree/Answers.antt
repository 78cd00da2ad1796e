use Rattle.std.proofs.Common.{sym, ap, ◌∙◌}
use Rattle.ya_lock.specs.Lock.{LockId}
use Rattle.ya_lock.proofs.tree_lock.TreeLock.holds_tree.Goals as goal

pub returns-clause-words : goal.returns-clause-words
returns-clause-words g c = ap (λ (l : LockId). l.words) (sym c.self.view_is) ∙ c.self.invariant.words
