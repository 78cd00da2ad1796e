use Rattle.std.proofs.Common.{arith, ◌≡◌, ℕ, ◌+◌, ◌*◌, ◌^◌, ◌<◌, ◌≤◌, ap, ◌∙◌}
use Rattle.ya_core.specs.declared.limits.TheConstants.{MAX_LEVELS, MAX_PLACES}
use Rattle.ya_core.specs.ArbitrationTree.{count_of_words}
use Rattle.ya_core.proofs.Promised.{few_places}
use Rattle.ya_lock.specs.Rule.{making_index}
use Rattle.ya_lock.proofs.WordsInRow.{making_small, making_is, bell_is}
use Rattle.ya_lock.proofs.tree_lock.TreeLock.bell.Goals as goal

-- the tree has few words, and few places
few_words : (levels words place : ℕ) → levels ≤ MAX_LEVELS → words ≡ count_of_words levels → place < 2 ^ levels
    → (words ≤ 4294967296) × (place < MAX_PLACES)
few_words levels words place most is below =
    let m : ℕ = making_index levels in let small : m ≤ 4294967296 = making_small levels most in
    let lies : 8 * words ≡ m = ap (λ (n : ℕ). 8 * n) is ∙ making_is levels in let places : ℕ = 2 ^ levels in
    let few : places ≤ MAX_PLACES = few_places levels most in let h : place < places = below in (omega arith, omega arith)

pub overflow_add-result : goal.overflow_add-result
overflow_add-result g c =
    let few = few_words g.row.L c.words.result c.args.place c.requires.levels.1
    (c.words.ensures ∙ ap count_of_words c.shape.ensures) c.requires.place in
    let words : ℕ = c.words.result in let w : words ≤ 4294967296 = few.0 in omega arith

pub overflow_add-result-2 : goal.overflow_add-result-2
overflow_add-result-2 g c =
    let few = few_words g.row.L c.words.result c.args.place c.requires.levels.1
    (c.words.ensures ∙ ap count_of_words c.shape.ensures) c.requires.place in
    let words : ℕ = c.words.result in let w : words ≤ 4294967296 = few.0 in
    let place : ℕ = c.args.place in let p : place < MAX_PLACES = few.1 in omega arith

pub overflow_mul-result : goal.overflow_mul-result
overflow_mul-result g c =
    let few = few_words g.row.L c.words.result c.args.place c.requires.levels.1
    (c.words.ensures ∙ ap count_of_words c.shape.ensures) c.requires.place in
    let words : ℕ = c.words.result in let w : words ≤ 4294967296 = few.0 in
    let place : ℕ = c.args.place in let p : place < MAX_PLACES = few.1 in omega arith

pub returns : goal.returns
returns g c =
    ap (λ (n : ℕ). 8 * (n + 1 + c.args.place)) (c.words.ensures ∙ ap count_of_words c.shape.ensures)
    ∙ bell_is g.row.L c.args.place
