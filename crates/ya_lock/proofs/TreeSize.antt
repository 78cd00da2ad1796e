-- A lock has the words of one tree.
use Rattle.std.proofs.Common.{◌≡◌, ℕ, ◌*◌, ◌^◌, ◌<◌, ◌≤◌, sym, ap, ◌∙◌, subst, arith}
use Rattle.ya_core.specs.declared.limits.TheConstants.{MAX_LEVELS}
use Rattle.ya_core.specs.ArbitrationTree.{count_of_words}
use Rattle.ya_lock.specs.Lock.{LockId}
use Rattle.ya_lock.specs.inside.Lock.{HasTree, HasPlace}
use Rattle.ya_lock.specs.Rule.{making_index, row_length, bell_index}
use Rattle.ya_lock.proofs.WordsInRow.{same_height, bell_within, making_is, making_small}

-- two trees with the words of the same lock have the same height
pub one_tree : (x y : LockId) (a b : ℕ) → x ≡ y → HasTree x a → HasTree y b → a ≡ b
one_tree x y a b e h k =
    same_height a b (sym h ∙ (ap (λ (z : LockId). z.words) e ∙ k))

-- the bells of its places are words of it
pub bell_in : (lock : LockId) (levels place i : ℕ) → HasTree lock levels → place < 2 ^ levels
    → i ≡ bell_index levels place → i < lock.words
bell_in lock levels place i h below is =
    subst (λ (n : ℕ). i < n) (sym h) (subst (λ (j : ℕ). j < row_length levels) (sym is) (bell_within levels place below))

-- so a place of the lock is a place of that tree
pub place_below : (x y : LockId) (place levels shape : ℕ) → x ≡ y → HasTree y levels → shape ≡ levels → HasPlace x place
    → place < 2 ^ shape
place_below x y place levels shape e h s p =
    subst (λ (l : ℕ). place < 2 ^ l) (one_tree x y p.levels levels e p.words h ∙ sym s) p.below

-- the index of a word of the tree is a small number
pub word_fits : (levels number : ℕ) → levels ≤ MAX_LEVELS → number < count_of_words levels → 8 * number ≤ 4294967296
word_fits levels number most below =
    let count : ℕ = count_of_words levels in let making : ℕ = making_index levels in
    let lies : 8 * count ≡ making = making_is levels in let small : making ≤ 4294967296 = making_small levels most in
    let h : number < count = below in omega arith

-- and it is a word of the lock
pub word_in_row : (lock : LockId) (levels number : ℕ) → HasTree lock levels → number < count_of_words levels
    → 8 * number < lock.words
word_in_row lock levels number h below =
    subst (λ (n : ℕ). 8 * number < n) (sym h)
    (let count : ℕ = count_of_words levels in let making : ℕ = making_index levels in let places : ℕ = 2 ^ levels in
    let lies : 8 * count ≡ making = making_is levels in let less : number < count = below in omega arith)
