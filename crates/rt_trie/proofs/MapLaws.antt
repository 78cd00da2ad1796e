-- The result of a look-up after a change; a change keeps the order.
use Rattle.std.proofs.Common.{◌≡◌, true, cond, [], ◌∷◌, Some, None, inl, inr, refl, sym, ◌∙◌, arith}
use Rattle.rt_cidr.specs.declared.prefixes.Prefix.{Prefix}
use Rattle.rt_trie.specs.Map.{Pairs, same_prefix, before, get, put, erase, IsBeforeAll, IsOrdered}
use Rattle.rt_trie.proofs.PrefixOrder.{same_tells, before_tells, same_rank, other_rank, lower_rank, rank_of_before}
use Rattle.rt_trie.proofs.JoinedPairs.{AllKeys-map, IsOther, IsOther-higher, IsHigher, get-none}
use Rattle.rt_trie.proofs.Counts.{AllKeys-higher}

-- equal prefixes are equal to the same prefixes
same_as : (x p q : Prefix) → x.base ≡ p.base → x.len ≡ p.len → same_prefix x q ≡ same_prefix p q
same_as x p q b l = elim (same_tells p q) [
  | inl h ↦ same_rank x q (omega arith) (omega arith) ∙ sym h.0
  | inr h ↦ other_rank x q (λ e. h.1 (omega arith)) ∙ sym h.0
]

module _ {V : Type 0} where
  -- after v was inserted at p, p has the value v, and every other prefix has its old value
  pub get-put : (m : Pairs V) (p : Prefix) (v : V) (q : Prefix) → get (put m p v) q ≡ cond (same_prefix p q) (Some v) (get m q)
  get-put [] p v q = refl
  get-put ((x, w) ∷ m) p v q = elim (before_tells p x) [
    | inl b ↦ rw b.0 refl
    | inr b ↦ elim (same_tells x p) [
      | inl s ↦ rw (b.0, s.0, same_as x p q s.1 s.2) (elim (same_tells p q) [ inl t ↦ rw t.0 refl | inr t ↦ rw t.0 refl ])
      | inr s ↦ rw (b.0, s.0, get-put m p v q) (elim (same_tells p q) [
        | inl t ↦ rw (t.0, other_rank x q (λ e. s.1 (omega arith))) refl
        | inr t ↦ rw t.0 refl
      ])
    ]
  ]

  -- after p was removed, p has no value, and every other prefix has its old value
  pub get-erase : (m : Pairs V) (p q : Prefix) → IsOrdered m → get (erase m p) q ≡ cond (same_prefix p q) None (get m q)
  get-erase [] p q o = elim (same_tells p q) [ inl t ↦ rw t.0 refl | inr t ↦ rw t.0 refl ]
  get-erase ((x, w) ∷ m) p q o = elim (same_tells x p) [
    | inl s ↦ rw (s.0, same_as x p q s.1 s.2) (elim (same_tells p q) [
      | inl t ↦ rw t.0 (get-none m q (AllKeys-map (IsHigher x) (IsOther q) m (λ y k. IsOther-higher q y (omega arith)) (AllKeys-higher x m o.0)))
      | inr t ↦ rw t.0 refl
    ])
    | inr s ↦ rw (s.0, get-erase m p q o.1) (elim (same_tells p q) [
      | inl t ↦ rw (t.0, other_rank x q (λ e. s.1 (omega arith))) refl
      | inr t ↦ rw t.0 refl
    ])
  ]

  before-put : (y : Prefix) (m : Pairs V) (p : Prefix) (v : V) → before y p ≡ true → IsBeforeAll y m → IsBeforeAll y (put m p v)
  before-put y [] p v b h = (b, tt)
  before-put y ((x, w) ∷ m) p v b h = elim (before_tells p x) [
    | inl a ↦ rw a.0 (b, (h.0, h.1))
    | inr a ↦ elim (same_tells x p) [
      | inl s ↦ rw (a.0, s.0) h
      | inr s ↦ rw (a.0, s.0) (h.0, before-put y m p v b h.1)
    ]
  ]

  before-trans : (p x : Prefix) (m : Pairs V) → before p x ≡ true → IsBeforeAll x m → IsBeforeAll p m
  before-trans p x [] b h = tt
  before-trans p x ((y, w) ∷ m) b h =
      (lower_rank p y (omega (arith, rank_of_before p x b, rank_of_before x y h.0)), before-trans p x m b h.1)

  -- both changes keep the order
  pub ordered-put : (m : Pairs V) (p : Prefix) (v : V) → IsOrdered m → IsOrdered (put m p v)
  ordered-put [] p v o = (tt, tt)
  ordered-put ((x, w) ∷ m) p v o = elim (before_tells p x) [
    | inl b ↦ rw b.0 ((b.0, before-trans p x m b.0 o.0), o)
    | inr b ↦ elim (same_tells x p) [
      | inl s ↦ rw (b.0, s.0) o
      | inr s ↦ rw (b.0, s.0) (before-put x m p v (lower_rank x p (omega arith)) o.0, ordered-put m p v o.1)
    ]
  ]

  before-erase : (y : Prefix) (m : Pairs V) (p : Prefix) → IsBeforeAll y m → IsBeforeAll y (erase m p)
  before-erase y [] p h = tt
  before-erase y ((x, w) ∷ m) p h = elim (same_tells x p) [
    | inl s ↦ rw s.0 h.1
    | inr s ↦ rw s.0 (h.0, before-erase y m p h.1)
  ]

  pub ordered-erase : (m : Pairs V) (p : Prefix) → IsOrdered m → IsOrdered (erase m p)
  ordered-erase [] p o = tt
  ordered-erase ((x, w) ∷ m) p o = elim (same_tells x p) [
    | inl s ↦ rw s.0 o.1
    | inr s ↦ rw s.0 (before-erase x m p o.0, ordered-erase m p o.1)
  ]
