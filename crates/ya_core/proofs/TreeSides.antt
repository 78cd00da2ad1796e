-- The positions of places in the tree.
use Rattle.std.proofs.Common.{◌≡◌, ℕ, ◌+◌, ◌-◌, ◌*◌, ◌/◌, ◌^◌, ◌<◌, ◌≤◌, arith, ap, ◌∙◌}
use Rattle.std.proofs.Math.Nat.{div-lt_iff_lt-mul, div-eq_of_lt}
use Rattle.std.proofs.lemmas.Nat.{pow_pos, pow-add, shr-shr}
use Rattle.ya_core.specs.ArbitrationTree.{node_of, side_of}

-- the two sides of a node are 0 and 1
pub side_below : (level place : ℕ) → side_of level place < 2
unfolding side_of
side_below level place = omega arith

-- a place of the tree is below a node of the tree
pub node_within : (levels level place : ℕ) → level ≤ levels → place < 2 ^ levels
    → node_of level place < 2 ^ (levels - level)
unfolding node_of
node_within levels level place most room =
    let parts : 2 ^ levels ≡ 2 ^ (levels - level) * 2 ^ level =
    ap (λ n. 2 ^ n) (let whole : levels ≡ levels - level + level = omega arith in whole)
    ∙ pow-add 2 (levels - level) level in
    (div-lt_iff_lt-mul (pow_pos level)).1 (omega arith)

-- a place below a node of the tree is a place of the tree
pub node_holds : (levels level place : ℕ) → level ≤ levels → node_of level place < 2 ^ (levels - level)
    → place < 2 ^ levels
unfolding node_of
node_holds levels level place most within =
    let parts : 2 ^ levels ≡ 2 ^ (levels - level) * 2 ^ level =
    ap (λ n. 2 ^ n) (let whole : levels ≡ levels - level + level = omega arith in whole)
    ∙ pow-add 2 (levels - level) level in
    let below = (div-lt_iff_lt-mul (pow_pos level)).0 within in
    omega arith

-- all places are below the root
pub node_of_root : (levels place : ℕ) → place < 2 ^ levels → node_of levels place ≡ 0
unfolding node_of
node_of_root levels place room = div-eq_of_lt room

-- the node at the level below, or the place itself for level 0, follows from node and side
node_split : (level place : ℕ) → 1 ≤ level → node_of (level - 1) place ≡ 2 * node_of level place + side_of level place
unfolding node_of side_of
node_split level place least =
    let halves : place / 2 ^ (level - 1) / 2 ^ 1 ≡ place / 2 ^ (level - 1 + 1) = shr-shr place (level - 1) 1 in
    let same : 2 ^ (level - 1 + 1) ≡ 2 ^ level =
    ap (λ n. 2 ^ n) (let whole : level - 1 + 1 ≡ level = omega arith in whole) in
    let again : place / 2 ^ (level - 1 + 1) ≡ place / 2 ^ level = ap (λ n. place / n) same in
    omega arith

-- two places on one side of one node are below one node of the level below
pub node_below : (level p q : ℕ) → 1 ≤ level → node_of level p ≡ node_of level q → side_of level p ≡ side_of level q
    → node_of (level - 1) p ≡ node_of (level - 1) q
node_below level p q least nodes sides = omega (arith, node_split level p least, node_split level q least)

-- each place is its own node below the leaves
pub node_of_place : (place : ℕ) → node_of 0 place ≡ place
unfolding node_of
node_of_place place = omega arith
