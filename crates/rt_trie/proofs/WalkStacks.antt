-- A walk's stack, as links are popped and pushed.
use Rattle.std.proofs.Common.{◌≡◌, ◌≢◌, ℕ, zero, suc, ◌+◌, ◌-◌, ◌*◌, ◌<◌, ◌≤◌, List, [], ◌∷◌, ◌++◌, length, get_or, set}
use Rattle.std.proofs.Common.{Option, Some, None, refl, sym, subst, ap, ◌∙◌, arith, append_assoc}
use Rattle.std.proofs.Common.{true, false, inl, inr}
use Rattle.std.proofs.lemmas.Bool.{cases_lt}
use Rattle.std.specs.Prelude.{IfSome, IsSomeAnd}
use Rattle.rt_trie.specs.Halves.{IsChild}
use Rattle.rt_trie.specs.inside.Lawful.{root, IsLawfulBelow}
use Rattle.rt_trie.proofs.LinkOrder.{if_some_map}
use Rattle.std.specs.Borrow.{Bor}
use Rattle.rt_cidr.specs.declared.prefixes.Prefix.{Prefix}
use Rattle.rt_trie.specs.declared.nodes.Link.{Link}
use Rattle.rt_trie.specs.inside.References.{link_at}
use Rattle.rt_trie.specs.inside.Links.{own_pair, pairs, count, IsNode}
use Rattle.rt_trie.specs.inside.WalkStack.{pairs_of, stack_pairs, IsFrom, IsWalkStack}

-- the work for a link: one, and two for each of its nodes
abbrev pub work_of : {V A : Type 0} → Option (Link V A) → ℕ
work_of None = 0
work_of (Some link) = 2 * count link + 1

-- the remaining work
abbrev pub weight_of : {V A : Type 0} → List (Bor (Link V A)) → ℕ → ℕ
weight_of xs zero = 0
weight_of xs (suc k) = work_of (link_at xs k) + weight_of xs k

pub link_at-read : {X : Type 0} (xs : List (Bor X)) (k : ℕ) (r : Bor X) → k < length xs → r ≡ get_or xs k r → link_at xs k ≡ Some r.now
link_at-read [] k r h e = absurd (omega arith)
link_at-read (x ∷ xs) zero r h e = ap (λ (y : Bor _). Some y.now) (sym e)
link_at-read (x ∷ xs) (suc k) r h e = link_at-read xs k r (omega arith) e

pub link_at-set_same : {X : Type 0} (xs : List (Bor X)) (k : ℕ) (r : Bor X) → k < length xs → link_at (set xs k r) k ≡ Some r.now
link_at-set_same [] k r h = absurd (omega arith)
link_at-set_same (x ∷ xs) zero r h = refl
link_at-set_same (x ∷ xs) (suc k) r h = link_at-set_same xs k r (omega arith)

pub link_at-set_other : {X : Type 0} (xs : List (Bor X)) (j k : ℕ) (r : Bor X) → j ≢ k → link_at (set xs k r) j ≡ link_at xs j
link_at-set_other [] j k r n = refl
link_at-set_other (x ∷ xs) zero zero r n = absurd (n refl)
link_at-set_other (x ∷ xs) zero (suc k) r n = refl
link_at-set_other (x ∷ xs) (suc j) zero r n = refl
link_at-set_other (x ∷ xs) (suc j) (suc k) r n = link_at-set_other xs j k r (λ e. n (ap suc e))

pub longer_root : (k : ℕ) (o : Option Prefix) (q : Prefix) → o ≡ Some q → IfSome o (λ x. k ≤ x.len) → k ≤ q.len
longer_root k o q e h = rw e at h

-- the last link of the stack, a node, was replaced by its two sides, and nothing else has changed
abbrev pub GivesWay : {V A : Type 0} → List (Bor (Link V A)) → List (Bor (Link V A)) → ℕ → Prefix → Option V → Type 0
GivesWay xs ys m q v =
    IsWalkStack ys (m - 1 + 2) × (own_pair q v ++ stack_pairs ys (m - 1 + 2) ≡ stack_pairs xs m) × (weight_of ys (m - 1 + 2) < weight_of xs m)

module _ {V A : Type 0} where
  -- a change at an index and after it keeps the pairs before it
  pub rest_below : (xs ys : List (Bor (Link V A))) (k : ℕ) → ((j : ℕ) → j < k → link_at ys j ≡ link_at xs j) → stack_pairs ys k ≡ stack_pairs xs k
  rest_below xs ys zero h = refl
  rest_below xs ys (suc k) h = rw (h k (omega arith)) (ap (λ m. pairs_of (link_at xs k) ++ m) (rest_below xs ys k (λ j l. h j (omega arith))))

  weight_below : (xs ys : List (Bor (Link V A))) (k : ℕ) → ((j : ℕ) → j < k → link_at ys j ≡ link_at xs j) → weight_of ys k ≡ weight_of xs k
  weight_below xs ys zero h = refl
  weight_below xs ys (suc k) h = rw (h k (omega arith)) (ap (λ m. work_of (link_at xs k) + m) (weight_below xs ys k (λ j l. h j (omega arith))))

  -- a node is replaced by its two sides
  pub walk_step : (xs ys : List (Bor (Link V A))) (m n k : ℕ) (link left right : Link V A) (q : Prefix) (v : Option V) → IsWalkStack xs m → m ≡ suc k
      → n ≡ suc (suc k) → link_at xs k ≡ Some link → IsNode link q v left right → link_at ys k ≡ Some right → link_at ys (suc k) ≡ Some left
      → ((j : ℕ) → j < k → link_at ys j ≡ link_at xs j) → length ys ≡ length xs
      → IsWalkStack ys n × (own_pair q v ++ stack_pairs ys n ≡ stack_pairs xs m) × (weight_of ys n < weight_of xs m)
  walk_step xs ys m n k link left right q v a em en at node r l below size =
      let here : IsFrom k link = rw at at (a.each k (omega arith)) in
      let deep = longer_root k (root link) q node.root_is here.1 in
      let short = q.is_prefix.short in
      let right_from : IfSome (root right) (λ x. k ≤ x.len) =
      if_some_map (root right) (IsChild q true) (λ x. k ≤ x.len) (λ x c. omega (arith, c.long)) node.halves.upper in
      let left_from : IfSome (root left) (λ x. suc k ≤ x.len) =
      if_some_map (root left) (IsChild q false) (λ x. suc k ≤ x.len) (λ x c. omega (arith, c.long)) node.halves.lower in
      let at_right : IsSomeAnd (link_at ys k) (IsFrom k) = rw r (node.right_lawful, right_from) in
      let at_left : IsSomeAnd (link_at ys (suc k)) (IsFrom (suc k)) = rw l (node.left_lawful, left_from) in (
        record {
          size = size ∙ a.size;
          few = omega arith;
          each = λ j h. elim (cases_lt j k) [
            | inl lt ↦ let b : IsSomeAnd (link_at xs j) (IsFrom j) = a.each j (omega arith) in rw (below j lt) b
            | inr ge ↦ elim (cases_lt k j) [
              | inl gt ↦ let e : suc k ≡ j = omega arith in subst (λ i. IsSomeAnd (link_at ys i) (IsFrom i)) e at_left
              | inr le ↦ let e : k ≡ j = omega arith in subst (λ i. IsSomeAnd (link_at ys i) (IsFrom i)) e at_right
            ]
          ];
        },
        rw (en, em, l, r, at) (
            ap (λ t. own_pair q v ++ (pairs left ++ (pairs right ++ t))) (rest_below xs ys k below)
            ∙ ap (λ t. own_pair q v ++ t) (sym (append_assoc (pairs left) (pairs right) (stack_pairs xs k)))
            ∙ sym (append_assoc (own_pair q v) (pairs left ++ pairs right) (stack_pairs xs k))
            ∙ sym (ap (λ t. t ++ stack_pairs xs k) node.pairs_are)),
        rw (en, em, l, r, at) (omega (arith, node.count_is, weight_below xs ys k below)),
      )

  -- the last link of the stack
  pub last_from : (xs : List (Bor (Link V A))) (m k : ℕ) (link : Link V A) → IsWalkStack xs m → m ≡ suc k → link_at xs k ≡ Some link → IsFrom k link
  last_from xs m k link a em at = rw at at (a.each k (omega arith))

  -- the last link is replaced by its two sides, at its index and after it
  pub walk_at : (xs ys : List (Bor (Link V A))) (m : ℕ) (link left right : Link V A) (q : Prefix) (v : Option V) → IsWalkStack xs m → 0 < m
      → link_at xs (m - 1) ≡ Some link → (IsLawfulBelow link → IsNode link q v left right) → link_at ys (m - 1) ≡ Some right
      → link_at ys (m - 1 + 1) ≡ Some left → ((j : ℕ) → j < m - 1 → link_at ys j ≡ link_at xs j) → length ys ≡ length xs
      → GivesWay xs ys m q v
  walk_at xs ys m link left right q v a pos at node r l below size =
      let em : m ≡ suc (m - 1) = omega arith in
      let en : m - 1 + 2 ≡ suc (suc (m - 1)) = omega arith in
      let one : m - 1 + 1 ≡ suc (m - 1) = omega arith in
      walk_step xs ys m (m - 1 + 2) (m - 1) link left right q v a em en at (node (last_from xs m (m - 1) link a em at).0.0) r
      (subst (λ j. link_at ys j ≡ Some left) one l) below size

  -- the last link is skipped: without it the stack has the same pairs
  abbrev pub IsPassed : List (Bor (Link V A)) → ℕ → ℕ → Type 0
  IsPassed xs m k = IsWalkStack xs k × (stack_pairs xs k ≡ stack_pairs xs m) × (weight_of xs k < weight_of xs m)

  -- a link without pairs is skipped
  empty_step : (xs : List (Bor (Link V A))) (m k : ℕ) (link : Link V A) → IsWalkStack xs m → m ≡ suc k → link_at xs k ≡ Some link → pairs link ≡ []
      → IsPassed xs m k
  empty_step xs m k link a em at e = (
    record { size = a.size; few = omega (arith, a.few); each = λ j h. a.each j (omega arith) },
    rw (em, at) (ap (λ t. t ++ stack_pairs xs k) (sym e)),
    rw (em, at) (omega arith),
  )

  pub empty_at : (xs : List (Bor (Link V A))) (m : ℕ) (link : Link V A) → IsWalkStack xs m → 0 < m → link_at xs (m - 1) ≡ Some link → pairs link ≡ []
      → IsPassed xs m (m - 1)
  empty_at xs m link a pos at e = empty_step xs m (m - 1) link a (omega arith) at e

  -- a leaf's pair is returned
  pub leaf_step : (xs : List (Bor (Link V A))) (m k : ℕ) (link : Link V A) (x : Prefix × V) → m ≡ suc k → link_at xs k ≡ Some link
      → pairs link ≡ x ∷ [] → stack_pairs xs m ≡ x ∷ stack_pairs xs k
  leaf_step xs m k link x em at e = rw (em, at) (ap (λ t. t ++ stack_pairs xs k) e)
