-- The pairs in a prefix: those of one branch, found by the position of the prefix relative to a node.
use Rattle.std.proofs.Common.{◌≡◌, ℕ, ◌+◌, ◌≤◌, ◌⊎◌, true, false, [], ◌∷◌, ◌++◌, Option, Some, None, inl, inr, refl, sym, subst, ap, ◌∙◌, arith}
use Rattle.std.proofs.lemmas.List.Elements.{filter-append}
use Rattle.std.proofs.lemmas.List.{append-nil}
use Rattle.rt_cidr.specs.declared.prefixes.Prefix.{Prefix}
use Rattle.rt_cidr.specs.Prefix.{contains}
use Rattle.rt_cidr.proofs.Promised.{size_pos}
use Rattle.rt_trie.specs.declared.nodes.Link.{Link}
use Rattle.rt_trie.specs.declared.nodes.Position.{Position}
use Rattle.rt_trie.specs.declared.nodes.Position.TheVariants.{Here, Left, Right, Above, Apart}
use Rattle.rt_trie.specs.Map.{Pairs, within, IsBeforeAll, IsOrdered}
use Rattle.rt_trie.specs.Halves.{IsInBlock, IsChild, middle, past}
use Rattle.rt_trie.specs.inside.Blocks.{StandsAt}
use Rattle.rt_trie.specs.inside.Links.{own_pair, pairs, IsNode}
use Rattle.rt_trie.proofs.Blocks.{contains_tells}
use Rattle.rt_trie.proofs.JoinedPairs.{AllKeys, AllKeys-map}
use Rattle.rt_trie.proofs.LinkOrder.{AllWithin, node_within, sides_of}

-- a prefix contains every prefix in its block that isn't shorter
in_block : (p x : Prefix) → IsInBlock p.base (past p) p.len x → contains p x ≡ true
in_block p x w = elim (contains_tells p x) [
  | inl r ↦ r.0
  | inr r ↦ elim r.1 [
    | inl short ↦ absurd (omega (arith, w.long))
    | inr out ↦ elim out [ inl low ↦ absurd (omega (arith, w.from)) | inr high ↦ absurd (omega (arith, w.to, size_pos x.len)) ]
  ]
]

-- a prefix contains nothing in a block that ends before its addresses, or begins after them
off_block : (p x : Prefix) (lo hi len : ℕ) → (hi ≤ p.base) ⊎ (past p ≤ lo) → IsInBlock lo hi len x → contains p x ≡ false
off_block p x lo hi len off w = elim (contains_tells p x) [
  | inr r ↦ r.0
  | inl r ↦ elim off [ inl low ↦ absurd (omega (arith, w.to, r.2, size_pos x.len)) | inr high ↦ absurd (omega (arith, w.from, r.3)) ]
]

-- a prefix contains no shorter prefix
shorter : (p x : Prefix) → x.len + 1 ≤ p.len → contains p x ≡ false
shorter p x h = elim (contains_tells p x) [
  | inr r ↦ r.0
  | inl r ↦ absurd (omega (arith, r.1))
]

module _ {V : Type 0} (p : Prefix) where
  within-all : (xs : Pairs V) → AllKeys (λ x. contains p x ≡ true) xs → within xs p ≡ xs
  within-all [] h = refl
  within-all ((q, v) ∷ xs) h = rw h.0 (ap (λ m. (q, v) ∷ m) (within-all xs h.1))

  within-none : (xs : Pairs V) → AllKeys (λ x. contains p x ≡ false) xs → within xs p ≡ []
  within-none [] h = refl
  within-none ((q, v) ∷ xs) h = rw h.0 (within-none xs h.1)

  within-off : (xs : Pairs V) (lo hi len : ℕ) → (hi ≤ p.base) ⊎ (past p ≤ lo) → AllWithin lo hi len xs → within xs p ≡ []
  within-off xs lo hi len off h =
      within-none xs (AllKeys-map (IsInBlock lo hi len) (λ x. contains p x ≡ false) xs (λ x. off_block p x lo hi len off) h)

  within-append : (xs ys : Pairs V) → within (xs ++ ys) p ≡ within xs p ++ within ys p
  within-append xs ys = filter-append (λ x. contains p x.0) xs ys

  within_own : (q : Prefix) (v : Option V) → contains p q ≡ false → within (own_pair q v) p ≡ []
  within_own q None h = refl
  within_own q (Some v) h = rw h refl

  -- filtering keeps the pairs in order
  before-within : (q : Prefix) (m : Pairs V) → IsBeforeAll q m → IsBeforeAll q (within m p)
  before-within q [] h = tt
  before-within q ((x, v) ∷ m) h = elim (contains_tells p x) [
    | inl r ↦ rw r.0 (h.0, before-within q m h.1)
    | inr r ↦ rw r.0 (before-within q m h.1)
  ]

  pub ordered_within : (m : Pairs V) → IsOrdered m → IsOrdered (within m p)
  ordered_within [] h = tt
  ordered_within ((x, v) ∷ m) h = elim (contains_tells p x) [
    | inl r ↦ rw r.0 (before-within x m h.0, ordered_within m h.1)
    | inr r ↦ rw r.0 (ordered_within m h.1)
  ]

-- a single pair is in p, or no pair is
pub single_within : {V : Type 0} (m : Pairs V) (q : Prefix) (v : V) (p : Prefix) → m ≡ (q, v) ∷ [] → contains p q ≡ true → within m p ≡ m
single_within m q v p e h = rw (e, h) refl

pub single_off : {V : Type 0} (m : Pairs V) (q : Prefix) (v : V) (p : Prefix) → m ≡ (q, v) ∷ [] → contains p q ≡ false → within m p ≡ []
single_off m q v p e h = rw (e, h) refl

module _ {V A : Type 0} (link : Link V A) (q : Prefix) (v : Option V) (left right : Link V A) (n : IsNode link q v left right) where
  -- the pairs of the node are in every block that its prefix is in
  pub all_within : (lo hi len : ℕ) → IsInBlock lo hi len q → AllWithin lo hi len (pairs link)
  all_within lo hi len w =
      let sides = sides_of link q v left right n in
      subst (AllWithin lo hi len) (sym n.pairs_are) (node_within lo hi len q v (pairs left) (pairs right) w sides.lower sides.upper)

module _ {V A : Type 0} (link : Link V A) (q : Prefix) (v : Option V) (left right : Link V A) (n : IsNode link q v left right) (p : Prefix) (r : Position) (s : StandsAt q p r) where
  all_in : IsInBlock p.base (past p) p.len q → within (pairs link) p ≡ pairs link
  all_in w = within-all p (pairs link) (AllKeys-map (IsInBlock p.base (past p) p.len) (λ x. contains p x ≡ true) (pairs link) (in_block p)
      (all_within link q v left right n p.base (past p) p.len w))

  parts : contains p q ≡ false → within (pairs link) p ≡ within (pairs left) p ++ within (pairs right) p
  parts h =
      ap (λ m. within m p) n.pairs_are ∙ within-append p (own_pair q v) (pairs left ++ pairs right)
      ∙ ap (λ m. m ++ within (pairs left ++ pairs right) p) (within_own p q v h) ∙ within-append p (pairs left) (pairs right)

  -- if p is the node's prefix, or contains it, all pairs are in p
  pub within-all_below : (r ≡ Here) ⊎ (r ≡ Above) → within (pairs link) p ≡ pairs link
  within-all_below e = elim e [
    | inl h ↦ let i : p ≡ q = subst (StandsAt q p) h s in
        all_in (rw i (record { long = omega arith; from = omega arith; to = omega arith }))
    | inr h ↦ let w : IsInBlock p.base (past p) (p.len + 1) q = subst (StandsAt q p) h s in
        all_in (record { long = omega (arith, w.long); from = w.from; to = w.to })
  ]

  -- if p is on one side, the pairs in p are there
  pub within-left : r ≡ Left → within (pairs link) p ≡ within (pairs left) p
  within-left h =
      let c : IsChild q false p = subst (StandsAt q p) h s in
      parts (shorter p q c.long)
      ∙ ap (λ m. within (pairs left) p ++ m)
      (within-off p (pairs right) (middle q) (past q) (q.len + 1) (inr c.to) (sides_of link q v left right n).upper)
      ∙ append-nil (within (pairs left) p)

  pub within-right : r ≡ Right → within (pairs link) p ≡ within (pairs right) p
  within-right h =
      let c : IsChild q true p = subst (StandsAt q p) h s in
      parts (shorter p q c.long)
      ∙ ap (λ m. m ++ within (pairs right) p)
      (within-off p (pairs left) q.base (middle q) (q.len + 1) (inl c.from) (sides_of link q v left right n).lower)

  -- if p is disjoint from the node, no pair is in p
  pub within-apart : r ≡ Apart → within (pairs link) p ≡ []
  within-apart h =
      let off : (past q ≤ p.base) ⊎ (past p ≤ q.base) = subst (StandsAt q p) h s in
      within-off p (pairs link) q.base (past q) q.len off
      (all_within link q v left right n q.base (past q) q.len (record { long = omega arith; from = omega arith; to = omega arith }))
