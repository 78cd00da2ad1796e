-- The words of a tree have different numbers, which fill one row.
use Rattle.std.proofs.Common.{◌≡◌, ℕ, ◌+◌, ◌-◌, ◌*◌, ◌^◌, ◌<◌, ◌≤◌, arith, ap, ◌⊎◌, inl, inr}
use Rattle.std.proofs.Math.Pow.{pow_mono}
use Rattle.std.proofs.Math.Nat.{mul-le-mul_right}
use Rattle.std.proofs.lemmas.Nat.{pow_pos, pow-add}
use Rattle.ya_core.specs.declared.limits.TheConstants.{MAX_LEVELS, MAX_PLACES}
use Rattle.ya_core.specs.declared.word.Word.{Word}
use Rattle.ya_core.specs.declared.word.Word.TheVariants.{C, T, P}
use Rattle.ya_core.specs.ArbitrationTree.{IsWord, nodes_below, number_of, count_of_words}

-- doubling a power of two
pub double : (k : ℕ) → 2 ^ (k + 1) ≡ 2 * 2 ^ k
double k = omega (arith, pow-add 2 k 1)

-- the number of nodes of a level above the leaves is at most half the number of places
pub room : (levels level : ℕ) → 1 ≤ level → level ≤ levels → 2 ^ (levels - level + 1) ≤ 2 ^ levels
room levels level least most = pow_mono (omega arith)

-- a tree has at most MAX_PLACES places
pub few_places : (levels : ℕ) → levels ≤ MAX_LEVELS → 2 ^ levels ≤ MAX_PLACES
few_places levels most = pow_mono {j = MAX_LEVELS} most

-- the rows of words P of the levels up to this one end before the last
rows_end : (levels level n : ℕ) → 1 ≤ level → level ≤ levels → (level - 1) * n + n ≤ levels * n
rows_end levels level n least most = grind (arith, mul-le-mul_right)

-- the number of a word is below the number of words
pub number_within : (levels : ℕ) (word : Word) → IsWord levels word → number_of levels word < count_of_words levels
unfolding number_of count_of_words
number_within levels (C level node side) is =
    omega (arith, double (levels - level), room levels level is.0 is.1, pow_pos levels, pow_pos (levels - level))
number_within levels (T level node) is =
    omega (arith, double (levels - level), room levels level is.0 is.1, pow_pos levels, pow_pos (levels - level))
number_within levels (P level place) is = omega (arith, rows_end levels level (2 ^ levels) is.0 is.1, pow_pos levels)

-- the nodes of lower levels have lower numbers
nodes_apart : (levels h k n m : ℕ) → 1 ≤ h → h < k → k ≤ levels → n < 2 ^ (levels - h)
    → nodes_below levels h + n < nodes_below levels k + m
nodes_apart levels h k n m least less most room =
    let half : 2 ^ (levels - k + 1) ≤ 2 ^ (levels - h) = pow_mono (omega arith) in
    let whole : 2 ^ (levels - h + 1) ≡ 2 * 2 ^ (levels - h) = double (levels - h) in
    let inside : 2 ^ (levels - h + 1) ≤ 2 ^ levels = pow_mono (omega arith) in
    omega arith

-- two nodes with the same number are equal
node_number : (levels h k n m : ℕ) → 1 ≤ h → 1 ≤ k → h ≤ levels → k ≤ levels → n < 2 ^ (levels - h)
    → m < 2 ^ (levels - k) → nodes_below levels h + n ≡ nodes_below levels k + m → (h ≡ k) × (n ≡ m)
node_number levels h k n m hl kl hm km hn km' e = cases (three h k)
  where
    three : (a b : ℕ) → (a < b) ⊎ ((a ≡ b) ⊎ (b < a))
    three a b = grind arith

    cases : (h < k) ⊎ ((h ≡ k) ⊎ (k < h)) → (h ≡ k) × (n ≡ m)
    cases (inl less) = absurd (omega (arith, nodes_apart levels h k n m hl less km hn))
    cases (inr (inr more)) = absurd (omega (arith, nodes_apart levels k h m n kl more hm km'))
    cases (inr (inl same)) =
        let rows : nodes_below levels h ≡ nodes_below levels k = ap (nodes_below levels) same in
        (same, omega arith)

-- two places at two levels whose words P have the same number are equal
spin_number : (size h k p q : ℕ) → p < size → q < size → h * size + p ≡ k * size + q → (h ≡ k) × (p ≡ q)
spin_number size h k p q hp hq e = cases (three h k)
  where
    three : (a b : ℕ) → (a < b) ⊎ ((a ≡ b) ⊎ (b < a))
    three a b = grind arith

    apart : (a b : ℕ) → a < b → a * size + size ≤ b * size
    apart a b less = grind (arith, mul-le-mul_right)

    cases : (h < k) ⊎ ((h ≡ k) ⊎ (k < h)) → (h ≡ k) × (p ≡ q)
    cases (inl less) = absurd (omega (arith, apart h k less))
    cases (inr (inr more)) = absurd (omega (arith, apart k h more))
    cases (inr (inl same)) =
        let rows : h * size ≡ k * size = ap (λ n. n * size) same in
        (same, omega arith)

-- the words C come first, then the words T
claims_end : (levels level node side : ℕ) → IsWord levels (C level node side)
    → 2 * (nodes_below levels level + node) + side < 2 * (2 ^ levels - 1)
claims_end levels level node side is =
    omega (arith, double (levels - level), room levels level is.0 is.1, pow_pos levels, pow_pos (levels - level))

turns_end : (levels level node : ℕ) → IsWord levels (T level node) → nodes_below levels level + node < 2 ^ levels - 1
turns_end levels level node is =
    omega (arith, double (levels - level), room levels level is.0 is.1, pow_pos levels, pow_pos (levels - level))

-- two words of the tree with the same number are equal
pub same_number : (levels : ℕ) (a b : Word) → IsWord levels a → IsWord levels b
    → number_of levels a ≡ number_of levels b → a ≡ b
unfolding number_of
same_number levels (C h n s) (C k m d) ha hb e =
    let sides : s ≡ d = omega arith in
    let nodes : nodes_below levels h + n ≡ nodes_below levels k + m = omega arith in
    let same = node_number levels h k n m ha.0 hb.0 ha.1 hb.1 ha.2 hb.2 nodes in
    cc (same.0, same.1)
same_number levels (T h n) (T k m) ha hb e =
    let nodes : nodes_below levels h + n ≡ nodes_below levels k + m = omega arith in
    let same = node_number levels h k n m ha.0 hb.0 ha.1 hb.1 ha.2 hb.2 nodes in
    cc (same.0, same.1)
same_number levels (P h p) (P k q) ha hb e =
    let spins : (h - 1) * 2 ^ levels + p ≡ (k - 1) * 2 ^ levels + q = omega arith in
    let same = spin_number (2 ^ levels) (h - 1) (k - 1) p q ha.2 hb.2 spins in
    let levels_same : h ≡ k = omega (arith, same.0, ha.0, hb.0) in
    cc (same.1)
same_number levels (C h n s) (T k m) ha hb e = absurd (omega (arith, claims_end levels h n s ha, e))
same_number levels (C h n s) (P k q) ha hb e = absurd (omega (arith, claims_end levels h n s ha, e))
same_number levels (T h n) (C k m d) ha hb e = absurd (omega (arith, claims_end levels k m d hb, e))
same_number levels (T h n) (P k q) ha hb e = absurd (omega (arith, turns_end levels h n ha, e))
same_number levels (P h p) (C k m d) ha hb e = absurd (omega (arith, claims_end levels k m d hb, e))
same_number levels (P h p) (T k m) ha hb e = absurd (omega (arith, turns_end levels k m hb, e))
