-- An ordered list of pairs: the pairs that are found, and the first and the next of their prefixes.
use Rattle.std.proofs.Common.{◌≡◌, zero, suc, ◌<◌, ◌⊎◌, true, false, [], ◌∷◌, Some, None, inl, inr, refl, sym, ◌∙◌, ap, subst, arith, ◌↔◌}
use Rattle.std.specs.Prelude.{Contains, is_some}
use Rattle.std.proofs.lemmas.Bool.{false≢true}
use Rattle.rt_cidr.specs.declared.prefixes.Prefix.{Prefix}
use Rattle.rt_cidr.proofs.Promised.{prefix_by_parts}
use Rattle.rt_trie.specs.Map.{Pairs, before, get, first, next_after, IsStored, IsBeforeAll, IsOrdered}
use Rattle.rt_trie.proofs.PrefixOrder.{rank, same_tells, before_tells, same_rank, other_rank, lower_rank, higher_rank, rank_of_before}
use Rattle.rt_trie.proofs.JoinedPairs.{AllKeys-map, IsHigher, IsOther, IsOther-higher, get-none}
use Rattle.rt_trie.proofs.Counts.{AllKeys-higher}

module _ {V : Type 0} where
  -- a prefix stored in the rest is stored
  pub stored-more : (x : Prefix) (w : V) (m : Pairs V) (p : Prefix) → IsStored m p → IsStored ((x, w) ∷ m) p
  stored-more x w m p h = elim (same_tells x p) [ inl s ↦ rw s.0 refl | inr s ↦ rw s.0 h ]

  -- the prefix in front is stored
  pub stored-here : (x : Prefix) (w : V) (m : Pairs V) → IsStored ((x, w) ∷ m) x
  stored-here x w m = rw (same_rank x x refl refl) refl

  -- a stored prefix is the one in front, or is stored in the rest
  pub stored-cases : (x : Prefix) (w : V) (m : Pairs V) (p : Prefix) → IsStored ((x, w) ∷ m) p
      → ((x.base ≡ p.base) × (x.len ≡ p.len)) ⊎ IsStored m p
  stored-cases x w m p h = elim (same_tells x p) [ inl s ↦ inl (s.1, s.2) | inr s ↦ inr (rw s.0 at h) ]

  -- a stored prefix comes after a prefix that comes before all
  pub stored-higher : (x : Prefix) (m : Pairs V) (p : Prefix) → IsBeforeAll x m → IsStored m p → rank x < rank p
  stored-higher x [] p b h = absurd (false≢true h)
  stored-higher x ((y, w) ∷ m) p b h = elim (stored-cases y w m p h) [
    | inl s ↦ omega (arith, rank_of_before x y b.0)
    | inr s ↦ stored-higher x m p b.1 s
  ]

  -- the prefix in front isn't stored in the rest
  none-behind : (x : Prefix) (m : Pairs V) (p : Prefix) → IsBeforeAll x m → rank x ≡ rank p → get m p ≡ None
  none-behind x m p b e =
      get-none m p (AllKeys-map (IsHigher x) (IsOther p) m (λ y k. IsOther-higher p y (omega arith)) (AllKeys-higher x m b))

  -- the prefix of a pair of the list is stored
  pub stored-contained : (m : Pairs V) (p : Prefix) (v : V) → Contains m (p, v) → IsStored m p
  stored-contained [] p v (k, lt, e) = absurd (omega arith)
  stored-contained ((x, w) ∷ m) p v (zero, lt, e) = rw (same_rank x p (ap (λ (y : Prefix × V). y.0.base) e) (ap (λ (y : Prefix × V). y.0.len) e)) refl
  stored-contained ((x, w) ∷ m) p v (suc k, lt, e) = stored-more x w m p (stored-contained m p v (k, omega arith, e))

  pub found-contained : (m : Pairs V) (p : Prefix) (v : V) → IsOrdered m → Contains m (p, v) → get m p ≡ Some v
  found-contained [] p v o (k, lt, e) = absurd (omega arith)
  found-contained ((x, w) ∷ m) p v o (zero, lt, e) =
      rw (same_rank x p (ap (λ (y : Prefix × V). y.0.base) e) (ap (λ (y : Prefix × V). y.0.len) e)) (ap (λ (y : Prefix × V). Some y.1) e)
  found-contained ((x, w) ∷ m) p v o (suc k, lt, e) =
      let r : rank x < rank p = stored-higher x m p o.0 (stored-contained m p v (k, omega arith, e)) in
      rw (other_rank x p (λ d. absurd (omega arith))) (found-contained m p v o.1 (k, omega arith, e))

  pub next-is-none : (m : Pairs V) (p : Prefix) → (next_after m p ≡ None) ↔ ((x : Prefix) → IsStored m x → before p x ≡ false)
  next-is-none m p = (none m p, of_none m p)
    where
      none : (m : Pairs V) (p : Prefix) → next_after m p ≡ None → (x : Prefix) → IsStored m x → before p x ≡ false
      none [] p h x s = absurd (false≢true s)
      none ((y, w) ∷ m) p h x s = elim (before_tells p y) [
        | inl b ↦ let e : Some y ≡ None = rw b.0 at h in cc
        | inr b ↦ elim (stored-cases y w m x s) [
          | inl e ↦ higher_rank p x (omega arith)
          | inr t ↦ let e : next_after m p ≡ None = rw b.0 at h in none m p e x t
        ]
      ]

      of_none : (m : Pairs V) (p : Prefix) → ((x : Prefix) → IsStored m x → before p x ≡ false) → next_after m p ≡ None
      of_none [] p h = refl
      of_none ((y, w) ∷ m) p h = rw (h y (stored-here y w m)) (of_none m p (λ x s. h x (stored-more y w m x s)))

  pub first-is-none : (m : Pairs V) → (first m ≡ None) ↔ (m ≡ [])
  first-is-none [] = (λ h. refl, λ h. refl)
  first-is-none ((x, w) ∷ m) = (λ h. cc, λ h. cc)

  pub contained-found : (m : Pairs V) (p : Prefix) (v : V) → get m p ≡ Some v → Contains m (p, v)
  contained-found [] p v h = cc
  contained-found ((x, w) ∷ m) p v h = elim (same_tells x p) [
    | inl s ↦
        let e : Some w ≡ Some v = rw s.0 at h in
        let f : w ≡ v = cc in
        let d = prefix_by_parts x p s.1 s.2 in
        (0, omega arith, cc)
    | inr s ↦
        let e : get m p ≡ Some v = rw s.0 at h in
        let k = contained-found m p v e in
        (suc k.0, omega (arith, k.1), k.2)
  ]

  pub pairs-found : (m : Pairs V) (p : Prefix) (v : V) → IsOrdered m → Contains m (p, v) ↔ (get m p ≡ Some v)
  pairs-found m p v o = (found-contained m p v o, contained-found m p v)

  pub one-list : (m n : Pairs V) → IsOrdered m → IsOrdered n → ((p : Prefix) → get m p ≡ get n p) → m ≡ n
  one-list [] [] o r h = refl
  one-list [] ((y, u) ∷ n) o r h = absurd (false≢true (subst (λ x. is_some x ≡ true) (sym (h y)) (stored-here y u n)))
  one-list ((x, w) ∷ m) [] o r h = absurd (false≢true (subst (λ y. is_some y ≡ true) (h x) (stored-here x w m)))
  one-list ((x, w) ∷ m) ((y, u) ∷ n) o r h =
      let there : IsStored ((y, u) ∷ n) x = subst (λ z. is_some z ≡ true) (h x) (stored-here x w m) in
      let back : IsStored ((x, w) ∷ m) y = subst (λ z. is_some z ≡ true) (sym (h y)) (stored-here y u n) in
      elim (stored-cases y u n x there) [
        | inr s ↦ elim (stored-cases x w m y back) [
          | inl e ↦ absurd (omega (arith, stored-higher y n x r.0 s))
          | inr t ↦ absurd (omega (arith, stored-higher y n x r.0 s, stored-higher x m y o.0 t))
        ]
        | inl e ↦
            let d = prefix_by_parts y x e.0 e.1 in
            let f : Some w ≡ Some u = rw (same_rank x x refl refl, same_rank y x e.0 e.1) at (h x) in
            let g : w ≡ u = cc in
            let t : m ≡ n = one-list m n o.1 r.1 (λ p. elim (same_tells x p) [
              | inl s ↦ none-behind x m p o.0 (omega arith) ∙ sym (none-behind y n p r.0 (omega arith))
              | inr s ↦ let z : get m p ≡ get n p = rw (s.0, other_rank y p (λ i. s.1 (omega arith))) at (h p) in z
            ]) in
            cc
      ]

  pub first-is-least : (m : Pairs V) (p : Prefix) → IsOrdered m
      → (first m ≡ Some p) ↔ (IsStored m p × ((x : Prefix) → IsStored m x → before x p ≡ false))
  first-is-least [] p o = (λ h. cc, λ h. absurd (false≢true h.0))
  first-is-least ((y, w) ∷ m) p o = (
    λ h.
        let e : y ≡ p = cc in
        subst (λ q. IsStored ((y, w) ∷ m) q × ((x : Prefix) → IsStored ((y, w) ∷ m) x → before x q ≡ false)) e (
          stored-here y w m,
          λ x s. higher_rank x y (elim (stored-cases y w m x s) [ inl i ↦ omega arith | inr t ↦ omega (arith, stored-higher y m x o.0 t) ]),
        ),
    λ h. elim (stored-cases y w m p h.0) [
      | inl e ↦ ap Some (prefix_by_parts y p e.0 e.1)
      | inr t ↦ absurd (false≢true (sym (h.1 y (stored-here y w m)) ∙ lower_rank y p (stored-higher y m p o.0 t)))
    ],
  )

  pub after-is-next : (m : Pairs V) (p q : Prefix) → IsOrdered m
      → (next_after m p ≡ Some q)
      ↔ (IsStored m q × (before p q ≡ true) × ((x : Prefix) → IsStored m x → before p x ≡ true → before x q ≡ false))
  after-is-next [] p q o = (λ h. cc, λ h. absurd (false≢true h.0))
  after-is-next ((y, w) ∷ m) p q o = elim (before_tells p y) [
    | inl b ↦ (
      λ h.
          let i : Some y ≡ Some q = rw b.0 at h in
          let f = (first-is-least ((y, w) ∷ m) q o).0 i in
          let e : y ≡ q = cc in
          (f.0, subst (λ x. before p x ≡ true) e b.0, λ x s l. f.1 x s),
      λ h. rw b.0 ((first-is-least ((y, w) ∷ m) q o).1 (
        h.0,
        λ x s. elim (before_tells p x) [
          | inl l ↦ h.2 x s l.0
          | inr l ↦ higher_rank x q (elim (stored-cases y w m x s) [ inl i ↦ absurd (omega arith) | inr t ↦ absurd (omega (arith, stored-higher y m x o.0 t)) ])
        ],
      )),
    )
    | inr b ↦
        let next = after-is-next m p q o.1 in (
          λ h.
              let n = next.0 (rw b.0 at h) in (
                stored-more y w m q n.0,
                n.1,
                λ x s l. elim (stored-cases y w m x s) [
                  | inl i ↦ absurd (omega (arith, rank_of_before p x l))
                  | inr t ↦ n.2 x t l
                ],
              ),
          λ h. rw b.0 (elim (stored-cases y w m q h.0) [
            | inl i ↦ absurd (omega (arith, rank_of_before p q h.1))
            | inr t ↦ next.1 (t, h.1, λ x s l. h.2 x (stored-more y w m x s) l)
          ]),
        )
  ]
