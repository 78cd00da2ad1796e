-- The numbers of nodes and pairs that a lawful link can have, and how a change of the pairs changes them.
use Rattle.std.proofs.Common.{◌≡◌, ℕ, ◌+◌, ◌-◌, ◌*◌, ◌^◌, ◌<◌, ◌≤◌, true, false, [], cond, ◌∷◌, ◌++◌, length, Option}
use Rattle.std.proofs.Common.{Some, None, refl, sym, ap, ◌∙◌, arith, length-append, inl, inr}
use Rattle.std.specs.Prelude.{IfSome, is_some}
use Rattle.std.proofs.lemmas.Nat.{pow-add, pow_pos}
use Rattle.std.proofs.Math.Pow.{pow_mono}
use Rattle.std.proofs.lemmas.Bool.{false≢true}
use Rattle.rt_cidr.specs.declared.prefixes.Prefix.{Prefix}
use Rattle.rt_trie.specs.declared.nodes.Link.{Link, Empty, Leaf, Fork', Full'}
use Rattle.rt_trie.specs.Map.{Pairs, same_prefix, get, put, erase, first, IsBeforeAll, IsOrdered}
use Rattle.rt_trie.specs.Halves.{IsInBlock}
use Rattle.rt_trie.specs.inside.Lawful.{root, IsFilled, IsLawfulBelow, IsLawfulTrie}
use Rattle.rt_trie.specs.inside.Links.{pairs, count}
use Rattle.rt_trie.proofs.PrefixOrder.{same_tells, before_tells, rank_of_before}
use Rattle.rt_trie.proofs.JoinedPairs.{AllKeys, AllKeys-map, IsOther, IsOther-higher, IsHigher, get-none}
use Rattle.rt_trie.proofs.LinkOrder.{filled_first}

-- one more than the number of nodes that fit below a block with prefixes of at least that length; a half has one bit
-- fewer
abbrev pub room : ℕ → ℕ
room len = 2 ^ (33 - len)

room_halves : (len : ℕ) → len ≤ 32 → room len ≡ 2 * room (len + 1)
room_halves len h =
    let e : 33 - len ≡ 1 + (33 - (len + 1)) = omega arith in
    ap (λ n. 2 ^ n) e ∙ pow-add 2 1 (33 - (len + 1))

room_mono : (a b : ℕ) → a ≤ b → room b ≤ room a
room_mono a b h = pow_mono (omega arith)

long_root : (o : Option Prefix) (lo hi len : ℕ) → IfSome o (IsInBlock lo hi len) → IfSome o (λ q. len ≤ q.len)
long_root None lo hi len h = h
long_root (Some q) lo hi len h = h.long

first_some : {V : Type 0} (xs : Pairs V) (p : Prefix) → first xs ≡ Some p → 1 ≤ length xs
first_some [] p e = cc
first_some (x ∷ xs) p e = omega arith

module _ {V A : Type 0} where
  -- a lawful link has fewer nodes than `room`
  pub count_fits : (link : Link V A) (len : ℕ) → IsLawfulBelow link → IfSome (root link) (λ q. len ≤ q.len) → count link + 1 ≤ room len
  count_fits Empty len h on = pow_pos (33 - len)
  count_fits (Leaf i j b) len h on =
      let s = b.value.prefix.is_prefix.short in
      omega (arith, room_halves len (omega arith), pow_pos (33 - (len + 1)))
  count_fits (Fork' i j p left right q) len h on =
      let s = q.is_prefix.short in
      let l = count_fits left (q.len + 1) h.1.0 (long_root (root left) _ _ (q.len + 1) h.0.lower) in
      let r = count_fits right (q.len + 1) h.2.0 (long_root (root right) _ _ (q.len + 1) h.0.upper) in
      omega (arith, room_halves q.len s, room_mono len q.len on)
  count_fits (Full' i j p left right q v) len h on =
      let s = q.is_prefix.short in
      let l = count_fits left (q.len + 1) h.1.0 (long_root (root left) _ _ (q.len + 1) h.0.lower) in
      let r = count_fits right (q.len + 1) h.2.0 (long_root (root right) _ _ (q.len + 1) h.0.upper) in
      omega (arith, room_halves q.len s, room_mono len q.len on)

  -- a whole trie has fewer than 2^33 nodes
  pub count_small : (link : Link V A) → IsLawfulTrie link → count link < 2 ^ 33
  count_small link h = omega (arith, count_fits link 0 h.0 (any_root (root link)))
    where
      any_root : (o : Option Prefix) → IfSome o (λ q. 0 ≤ q.len)
      any_root None = tt
      any_root (Some q) = omega arith

  -- a link has at most as many pairs as nodes
  pub pairs_few : (link : Link V A) → length (pairs link) ≤ count link
  pairs_few Empty = omega arith
  pairs_few (Leaf i j b) = omega arith
  pairs_few (Fork' i j p left right q) = omega (arith, pairs_few left, pairs_few right, length-append (pairs left) (pairs right))
  pairs_few (Full' i j p left right q None) = omega (arith, pairs_few left, pairs_few right, length-append (pairs left) (pairs right))
  pairs_few (Full' i j p left right q (Some v)) = omega (arith, pairs_few left, pairs_few right, length-append (pairs left) (pairs right))

  filled_pairs : (link : Link V A) → IsLawfulTrie link → IsFilled link → 1 ≤ length (pairs link)
  filled_pairs link h f = let i = filled_first link h f in first_some (pairs link) i.0 i.1

  few_of_both : (left right : Link V A) → count left ≤ 2 * length (pairs left) - 1 → count right ≤ 2 * length (pairs right) - 1
      → 1 ≤ length (pairs left) → 1 ≤ length (pairs right) → count left + count right + 1 ≤ 2 * length (pairs left ++ pairs right) - 1
  few_of_both left right l r some_left some_right = omega (arith, length-append (pairs left) (pairs right))

  -- a lawful link with n pairs has at most 2n - 1 nodes
  pub nodes_few : (link : Link V A) → IsLawfulTrie link → count link ≤ 2 * length (pairs link) - 1
  nodes_few Empty h = omega arith
  nodes_few (Leaf i j b) h = omega arith
  nodes_few (Fork' i j p left right q) h =
      few_of_both left right (nodes_few left h.0.1) (nodes_few right h.0.2) (filled_pairs left h.0.1 h.1.0) (filled_pairs right h.0.2 h.1.1)
  nodes_few (Full' i j p left right q None) h =
      few_of_both left right (nodes_few left h.0.1) (nodes_few right h.0.2) (filled_pairs left h.0.1 h.1.0) (filled_pairs right h.0.2 h.1.1)
  nodes_few (Full' i j p left right q (Some v)) h =
      omega (arith, nodes_few left h.0.1, nodes_few right h.0.2, length-append (pairs left) (pairs right))

-- the list with the value at p, if there is one, replaced by w
abbrev pub set_value : {V : Type 0} → Pairs V → Prefix → V → Pairs V
set_value [] p w = []
set_value ((q, v) ∷ m) p w = (q, cond (same_prefix q p) w v) ∷ set_value m p w

module _ {V : Type 0} where
  pub AllKeys-higher : (q : Prefix) (xs : Pairs V) → IsBeforeAll q xs → AllKeys (IsHigher q) xs
  AllKeys-higher q [] h = tt
  AllKeys-higher q ((x, v) ∷ xs) h = (rank_of_before q x h.0, AllKeys-higher q xs h.1)

  -- a new prefix makes the map longer by 1, and a stored one doesn't
  pub length-put_absent : (m : Pairs V) (p : Prefix) (v : V) → get m p ≡ None → length (put m p v) ≡ length m + 1
  length-put_absent [] p v h = omega arith
  length-put_absent ((q, w) ∷ m) p v h = elim (before_tells p q) [
    | inl b ↦ rw b.0 (omega arith)
    | inr b ↦ elim (same_tells q p) [
      | inl s ↦ let e : Some w ≡ None = rw s.0 at h in cc
      | inr s ↦ let e : get m p ≡ None = rw s.0 at h in rw (b.0, s.0) (omega (arith, length-put_absent m p v e))
    ]
  ]

  set_value-length : (m : Pairs V) (p : Prefix) (w : V) → length (set_value m p w) ≡ length m
  set_value-length [] p w = refl
  set_value-length ((q, u) ∷ m) p w = omega (arith, set_value-length m p w)

  pub set_value-other : (xs : Pairs V) (p : Prefix) (w : V) → AllKeys (IsOther p) xs → set_value xs p w ≡ xs
  set_value-other [] p w h = refl
  set_value-other ((q, v) ∷ xs) p w h = rw h.0 (ap (λ m. (q, v) ∷ m) (set_value-other xs p w h.1))

  -- inserting at a stored prefix replaces its value
  pub put-stored : (m : Pairs V) (p : Prefix) (w v : V) → IsOrdered m → get m p ≡ Some v → put m p w ≡ set_value m p w
  put-stored [] p w v o h = cc
  put-stored ((q, u) ∷ m) p w v o h = elim (before_tells p q) [
    | inl b ↦
        let n : get m p ≡ None = get-none m p (AllKeys-map (IsHigher q) (IsOther p) m (λ x k. IsOther-higher p x (omega arith)) (AllKeys-higher q m o.0)) in
        elim (same_tells q p) [
          | inl s ↦ absurd (omega arith)
          | inr s ↦ let e : get m p ≡ Some v = rw s.0 at h in cc
        ]
    | inr b ↦ elim (same_tells q p) [
      | inl s ↦
          let t = q.is_prefix.short in
          rw (b.0, s.0) (ap (λ x. (q, w) ∷ x) (sym (set_value-other m p w
          (AllKeys-map (IsHigher q) (IsOther p) m (λ x k. IsOther-higher p x (omega arith)) (AllKeys-higher q m o.0)))))
      | inr s ↦ let e : get m p ≡ Some v = rw s.0 at h in rw (b.0, s.0) (ap (λ x. (q, u) ∷ x) (put-stored m p w v o.1 e))
    ]
  ]

  pub length-put_stored : (m : Pairs V) (p : Prefix) (v w : V) → IsOrdered m → get m p ≡ Some w → length (put m p v) ≡ length m
  length-put_stored m p v w o h = ap length (put-stored m p v w o h) ∙ set_value-length m p v

  pub length-erase_stored : (m : Pairs V) (p : Prefix) (w : V) → get m p ≡ Some w → length (erase m p) + 1 ≡ length m
  length-erase_stored [] p w h = cc
  length-erase_stored ((q, u) ∷ m) p w h = elim (same_tells q p) [
    | inl s ↦ rw s.0 (omega arith)
    | inr s ↦ let e : get m p ≡ Some w = rw s.0 at h in rw s.0 (omega (arith, length-erase_stored m p w e))
  ]

  -- the same, by the answer of the look-up
  pub length-put_known : (m : Pairs V) (p : Prefix) (v : V) (o : Option V) → IsOrdered m → get m p ≡ o → is_some o ≡ true → length (put m p v) ≡ length m
  length-put_known m p v None h e k = absurd (false≢true k)
  length-put_known m p v (Some w) h e k = length-put_stored m p v w h e

  pub length-erase_known : (m : Pairs V) (p : Prefix) (o : Option V) → get m p ≡ o → true ≡ is_some o → length (erase m p) + 1 ≡ length m
  length-erase_known m p None e k = absurd (false≢true (sym k))
  length-erase_known m p (Some w) e k = length-erase_stored m p w e

pub none_is : {X : Type 0} (o : Option X) → is_some o ≡ false → o ≡ None
none_is None h = refl
none_is (Some x) h = absurd (false≢true (sym h))
