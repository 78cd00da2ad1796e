use Rattle.std.proofs.Common.{arith, ℕ, ◌*◌, ◌<◌, ◌≤◌, subst}
use Rattle.ya_core.specs.ArbitrationTree.{count_of_words}
use Rattle.ya_lock.proofs.TreeSize.{word_fits, word_in_row}
use Rattle.ya_lock.proofs.tree_lock.TreeLock.is_taken_from.Goals as goal

pub overflow_mul-c : goal.overflow_mul-c
overflow_mul-c g c =
    let number : ℕ = c.c.result in
    let small : 8 * number ≤ 4294967296 = word_fits g.row.L number c.self.invariant.most
    (subst (λ (l : ℕ). number < count_of_words l) c.shape.ensures c.c.ensures.within) in omega arith

pub peek-requires : goal.peek-requires
peek-requires g c =
    word_in_row c.self.inside.table.shared.table_id g.row.L c.c.result c.self.invariant.words
    (subst (λ (l : ℕ). c.c.result < count_of_words l) c.shape.ensures c.c.ensures.within)
