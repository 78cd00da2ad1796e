-- The effect on a link of removing a pair, and then a node that isn't needed.
use Rattle.std.proofs.Common.{◌≡◌, ℕ, ◌⊎◌, ◌+◌, ◌<◌, Bool, true, false, [], ◌∷◌, ◌++◌, Option, Some, None, inl, inr}
use Rattle.std.proofs.Common.{refl, sym, subst, ap, ◌∙◌, arith, rules}
use Rattle.std.specs.Prelude.{Box}
use Rattle.std.specs.Box.{with_value}
use Rattle.rt_cidr.specs.declared.prefixes.Prefix.{Prefix}
use Rattle.rt_trie.specs.declared.nodes.Link.{Link, Empty, Leaf, Fork', Full'}
use Rattle.rt_trie.specs.declared.nodes.Link.TheVariants.{Fork, Full}
use Rattle.rt_trie.specs.declared.nodes.ForkNode.{ForkNode}
use Rattle.rt_trie.specs.declared.nodes.FullNode.{FullNode}
use Rattle.rt_trie.specs.Map.{Pairs, same_prefix, get, erase}
use Rattle.rt_trie.specs.declared.nodes.Position.{Position}
use Rattle.rt_trie.specs.declared.nodes.Position.TheVariants.{Here, Left, Right, Above, Apart}
use Rattle.rt_trie.proofs.Insertions.{get_above, get_apart, made_full_below}
use Rattle.rt_trie.specs.Halves.{IsChild, middle, past}
use Rattle.rt_trie.specs.inside.Lawful.{IsKeyOf, root, IsLawfulBelow, IsLawfulTrie}
use Rattle.rt_trie.specs.inside.Blocks.{StandsAt}
use Rattle.rt_trie.specs.inside.Links.{own_pair, pairs, count, IsVacant, IsLone, IsLeafOf, IsNode}
use Rattle.rt_trie.specs.inside.Changes.{IsErased, IsSpliced, AreSidesOf}
use Rattle.rt_trie.proofs.PrefixOrder.{same_tells, same_rank}
use Rattle.rt_cidr.proofs.Promised.{size_pos}
use Rattle.rt_trie.proofs.JoinedPairs.{AllKeys-map, IsOther, IsHigher, IsOther-higher, erase-skip, erase-none, erase-front, erase-here}
use Rattle.rt_trie.proofs.NodePairs.{upper_other, lower_other, own_other, sides_higher}
use Rattle.rt_trie.proofs.LinkOrder.{if_some_map, IsView, within_lower, within_upper, sides_of, of_fork, of_full, node_get-unstored}
use Rattle.rt_trie.proofs.LinkOrder.{key_of_fork, key_of_full, view_fork, view_full, get_left, get_right}

-- a child of a child on a side is a child there
child_lower : (parent : Prefix) (upper : Bool) (q x : Prefix) → IsChild parent upper q → IsChild q false x → IsChild parent upper x
child_lower parent false q x h k = within_lower parent.base (middle parent) (parent.len + 1) q x h k
child_lower parent true q x h k = within_lower (middle parent) (past parent) (parent.len + 1) q x h k

child_upper : (parent : Prefix) (upper : Bool) (q x : Prefix) → IsChild parent upper q → IsChild q true x → IsChild parent upper x
child_upper parent false q x h k = within_upper parent.base (middle parent) (parent.len + 1) q x h k
child_upper parent true q x h k = within_upper (middle parent) (past parent) (parent.len + 1) q x h k

-- removing a prefix that isn't stored changes nothing
pub erase-absent : {V : Type 0} (xs : Pairs V) (p : Prefix) → get xs p ≡ None → erase xs p ≡ xs
erase-absent [] p h = refl
erase-absent ((q, v) ∷ xs) p h = elim (same_tells q p) [
  | inl s ↦ let e : Some v ≡ None = rw s.0 at h in cc
  | inr s ↦ let e : get xs p ≡ None = rw s.0 at h in rw s.0 (ap (λ r. (q, v) ∷ r) (erase-absent xs p e))
]

module _ {V A : Type 0} where
  -- the sides of a node without a value
  pub sides_apart : (link : Link V A) (q : Prefix) (left right : Link V A) → IsNode link q None left right → IsVacant left ⊎ IsVacant right
      → AreSidesOf link left right
  sides_apart link q left right n one = record {
    pairs_are = n.pairs_are;
    counted = n.count_is;
    one = one;
    left_lawful = n.left_lawful;
    right_lawful = n.right_lawful;
    left_stays = λ parent upper h.
        let c : IsChild parent upper q = rw n.root_is at h in
        if_some_map (root left) (IsChild q false) (IsChild parent upper) (λ x. child_lower parent upper q x c) n.halves.lower;
    right_stays = λ parent upper h.
        let c : IsChild parent upper q = rw n.root_is at h in
        if_some_map (root right) (IsChild q true) (IsChild parent upper) (λ x. child_upper parent upper q x c) n.halves.upper;
  }

  pub fork_apart : {len base : ℕ} (b : Box (ForkNode V A) A) (n : ForkNode V A) (link : Link V A) → link ≡ Fork len base b → n ≡ b.value → IsLawfulBelow link
      → IsLone link → AreSidesOf link n.left n.right
  fork_apart b n link e f h k =
      let one : IsVacant b.value.left ⊎ IsVacant b.value.right = subst IsLone e k in
      sides_apart link n.prefix n.left n.right (of_fork b n link e f h) (rw f one)

  pub full_apart : {len base : ℕ} (b : Box (FullNode V A) A) (n : FullNode V A) (link : Link V A) → link ≡ Full len base b → n ≡ b.value → IsLawfulBelow link
      → IsLone link → AreSidesOf link n.left n.right
  full_apart b n link e f h k =
      let one : (b.value.value ≡ None) × (IsVacant b.value.left ⊎ IsVacant b.value.right) = subst IsLone e k in
      let none : n.value ≡ None = ap (λ (x : FullNode V A). x.value) f ∙ one.0 in
      sides_apart link n.prefix n.left n.right
      (subst (λ o. IsNode link n.prefix o n.left n.right) none (of_full b n link e f h)) (rw f one.1)

  -- if one side is empty, the other has all pairs of the node, and moves up
  pub right_moves_up : {old link left right : Link V A} → link ≡ old → AreSidesOf link left right → IsVacant left
      → IsSpliced old right × (count old ≡ count right + 1)
  right_moves_up e s h = search rules

  pub left_moves_up : {old link left right : Link V A} → link ≡ old → AreSidesOf link left right → (IsVacant left → ⊥)
      → IsSpliced old left × (count old ≡ count left + 1)
  left_moves_up e s h = search rules

  -- removing a prefix below a node removes it from the node's sides
  erase_below : (old mid : Link V A) (q : Prefix) (w : Option V) (l r : Link V A) (p : Prefix) (rest : Pairs V) → IsNode old q w l r → q.len < p.len
      → pairs mid ≡ own_pair q w ++ rest → erase (pairs l ++ pairs r) p ≡ rest → pairs mid ≡ erase (pairs old) p
  erase_below old mid q w l r p rest n long e f =
      e ∙ sym (ap (λ x. erase x p) n.pairs_are
      ∙ erase-skip (own_pair q w) (pairs l ++ pairs r) p (own_other q w (pairs l) (pairs r) (sides_of old q w l r n) p long)
      ∙ ap (λ x. own_pair q w ++ x) f)

  -- p is removed on one side
  module _ (old mid : Link V A) (q : Prefix) (w : Option V) (l r k : Link V A) (p : Prefix) (n : IsNode old q w l r) where
    erase_left : IsNode mid q w k r → IsChild q false p → IsErased l k p → pairs mid ≡ erase (pairs old) p
    erase_left m c i =
        erase_below old mid q w l r p (pairs k ++ pairs r) n (omega (arith, c.long)) m.pairs_are
        (erase-front (pairs l) (pairs r) p (upper_other q w (pairs l) (pairs r) (sides_of old q w l r n) p (omega (arith, c.to, size_pos p.len)))
        ∙ ap (λ x. x ++ pairs r) (sym i.pairs_are))

    erase_right : IsNode mid q w l k → IsChild q true p → IsErased r k p → pairs mid ≡ erase (pairs old) p
    erase_right m c i =
        erase_below old mid q w l r p (pairs l ++ pairs k) n (omega (arith, c.long)) m.pairs_are
        (erase-skip (pairs l) (pairs r) p (lower_other q w (pairs l) (pairs r) (sides_of old q w l r n) p c.from)
        ∙ ap (λ x. pairs l ++ x) (sym i.pairs_are))

  -- a node's own value is removed
  erase_own : (old mid : Link V A) (q : Prefix) (w : Option V) (l r : Link V A) → IsNode old q w l r → IsNode mid q None l r
      → pairs mid ≡ erase (pairs old) q
  erase_own old mid q None l r n m =
      m.pairs_are ∙ sym (ap (λ x. erase x q) n.pairs_are ∙ erase-none (pairs l ++ pairs r) q
      (AllKeys-map (IsHigher q) (IsOther q) (pairs l ++ pairs r) (λ x. IsOther-higher q x)
      (sides_higher q None (pairs l) (pairs r) (sides_of old q None l r n))))
  erase_own old mid q (Some v) l r n m =
      m.pairs_are ∙ sym (ap (λ x. erase x q) n.pairs_are ∙ erase-here (pairs l ++ pairs r) q v)

  -- the node after a change of one side, and before a node that isn't needed is removed
  pub record IsHalfway (old mid : Link V A) (p : Prefix) : Type 0 where
    pub pairs_are : pairs mid ≡ erase (pairs old) p
    pub below : IsLawfulBelow mid
    pub root_is : root mid ≡ root old

  -- p was removed on one side of a node, together with its value
  module _ (old : Link V A) (q : Prefix) (w : Option V) (l r k : Link V A) (make : Link V A → Link V A → Link V A) (p : Prefix) (gone : Option V)
      (x : IsView old q w l r make) where
    pub taken_left : IsChild q false p → IsErased l k p → gone ≡ get (pairs l) p → IsHalfway old (make k r) p × (gone ≡ get (pairs old) p)
    taken_left c i e =
        let u = x.again k r (record { lower = i.stays q false x.node.halves.lower; upper = x.node.halves.upper }) i.lawful x.node.right_lawful in (
          record { pairs_are = erase_left old (make k r) q w l r k p x.node u.0 c i; below = u.1; root_is = u.0.root_is ∙ sym x.node.root_is },
          e ∙ sym (get_left old q w l r x.node p c),
        )

    pub taken_right : IsChild q true p → IsErased r k p → gone ≡ get (pairs r) p → IsHalfway old (make l k) p × (gone ≡ get (pairs old) p)
    taken_right c i e =
        let u = x.again l k (record { lower = x.node.halves.lower; upper = i.stays q true x.node.halves.upper }) x.node.left_lawful i.lawful in (
          record { pairs_are = erase_right old (make l k) q w l r k p x.node u.0 c i; below = u.1; root_is = u.0.root_is ∙ sym x.node.root_is },
          e ∙ sym (get_right old q w l r x.node p c),
        )

  -- the node is a fork
  module _ {len base : ℕ} {b : Box (ForkNode V A) A} {n : ForkNode V A} {old k : Link V A} {p : Prefix} {gone : Option V}
      (e : old ≡ Fork len base b) (f : n ≡ b.value) (h : IsLawfulBelow old) where
    pub taken_left_of_fork : ((q : Prefix) → IsKeyOf len base q → IsChild q false p) → IsErased n.left k p → gone ≡ get (pairs n.left) p
        → IsHalfway old (Fork len base (with_value b (record { prefix = n.prefix; left = k; right = n.right }))) p × (gone ≡ get (pairs old) p)
    taken_left_of_fork position =
        taken_left old n.prefix None n.left n.right k _ p gone (view_fork b n old e f h) (position n.prefix (key_of_fork b n old e f h))

    pub taken_right_of_fork : ((q : Prefix) → IsKeyOf len base q → IsChild q true p) → IsErased n.right k p → gone ≡ get (pairs n.right) p
        → IsHalfway old (Fork len base (with_value b (record { prefix = n.prefix; left = n.left; right = k }))) p × (gone ≡ get (pairs old) p)
    taken_right_of_fork position =
        taken_right old n.prefix None n.left n.right k _ p gone (view_fork b n old e f h) (position n.prefix (key_of_fork b n old e f h))

  -- the node is a full node
  module _ {len base : ℕ} {b : Box (FullNode V A) A} {n : FullNode V A} {old k : Link V A} {p : Prefix} {gone : Option V}
      (e : old ≡ Full len base b) (f : n ≡ b.value) (h : IsLawfulBelow old) where
    pub taken_left_of_full : ((q : Prefix) → IsKeyOf len base q → IsChild q false p) → IsErased n.left k p → gone ≡ get (pairs n.left) p
        → IsHalfway old (Full len base (with_value b (record { prefix = n.prefix; value = n.value; left = k; right = n.right }))) p × (gone ≡ get (pairs old) p)
    taken_left_of_full position =
        taken_left old n.prefix n.value n.left n.right k _ p gone (view_full b n old e f h) (position n.prefix (key_of_full b n old e f h))

    pub taken_right_of_full : ((q : Prefix) → IsKeyOf len base q → IsChild q true p) → IsErased n.right k p → gone ≡ get (pairs n.right) p
        → IsHalfway old (Full len base (with_value b (record { prefix = n.prefix; value = n.value; left = n.left; right = k }))) p × (gone ≡ get (pairs old) p)
    taken_right_of_full position =
        taken_right old n.prefix n.value n.left n.right k _ p gone (view_full b n old e f h) (position n.prefix (key_of_full b n old e f h))

  pub halfway_full_here : {len base : ℕ} (f : Box (FullNode V A) A) (m : FullNode V A) (old : Link V A) (p : Prefix) → old ≡ Full len base f → m ≡ f.value
      → IsLawfulTrie old → p ≡ m.prefix → (b : Box (FullNode V A) A) → b.value.prefix ≡ m.prefix
      → b.value.value ≡ None → b.value.left ≡ m.left → b.value.right ≡ m.right → IsHalfway old (Full len base b) p
  halfway_full_here {len} {base} f m old p e g h i b x w y z =
      let n = of_full f m old e g h.0 in
      let u = made_full_below len base b m.prefix None m.left m.right (key_of_full f m old e g h.0) x w y z n.halves n.left_lawful n.right_lawful in
      rw i (record { pairs_are = erase_own old (Full len base b) m.prefix m.value m.left m.right n u.0; below = u.1; root_is = u.0.root_is ∙ sym n.root_is })

  -- the whole removal of p, from the removal on a side
  pub erased_of : (old mid new : Link V A) (p : Prefix) → IsHalfway old mid p → IsSpliced mid new → IsErased old new p
  erased_of old mid new p h s = record {
    pairs_are = s.pairs_are ∙ h.pairs_are;
    lawful = s.lawful;
    stays = λ parent upper k. s.stays parent upper (rw h.root_is k);
  }

  -- removing a prefix that isn't stored leaves the link unchanged
  pub erased_none : (old : Link V A) (p : Prefix) → IsLawfulTrie old → get (pairs old) p ≡ None → IsErased old old p
  erased_none old p h e = record {
    pairs_are = sym (erase-absent (pairs old) p e);
    lawful = h;
    stays = λ parent upper k. k;
  }

  -- at a fork, prefixes are only stored on its sides
  pub fork_none : {len base : ℕ} (b : Box (ForkNode V A) A) (n : ForkNode V A) (old : Link V A) (p : Prefix)
      (r : Position) → old ≡ Fork len base b → n ≡ b.value
      → IsLawfulTrie old → StandsAt n.prefix p r → (r ≡ Left → ⊥) → (r ≡ Right → ⊥) → get (pairs old) p ≡ None
  fork_none b n old p Here e f h s x y =
      node_get-unstored old n.prefix n.left n.right (of_fork b n old e f h.0) p (omega (arith, ap (λ (z : Prefix). z.len) s))
  fork_none b n old p Left e f h s x y = absurd (x refl)
  fork_none b n old p Right e f h s x y = absurd (y refl)
  fork_none b n old p Above e f h s x y = get_above old n.prefix p h (of_fork b n old e f h.0).root_is s
  fork_none b n old p Apart e f h s x y = get_apart old n.prefix p h (of_fork b n old e f h.0).root_is s

  -- the same at a full node, except for its own value
  pub full_none : {len base : ℕ} (b : Box (FullNode V A) A) (n : FullNode V A) (old : Link V A) (p : Prefix)
      (r : Position) → old ≡ Full len base b → n ≡ b.value
      → IsLawfulTrie old → StandsAt n.prefix p r → (r ≡ Above) ⊎ (r ≡ Apart) → get (pairs old) p ≡ None
  full_none b n old p r e f h s o = elim o [
    | inl i ↦ get_above old n.prefix p h (of_full b n old e f h.0).root_is (subst (StandsAt n.prefix p) i s)
    | inr i ↦ get_apart old n.prefix p h (of_full b n old e f h.0).root_is (subst (StandsAt n.prefix p) i s)
  ]

  pub erased_same : (old new : Link V A) (p : Prefix) → IsLawfulTrie old → get (pairs old) p ≡ None → old ≡ new → IsErased old new p
  erased_same old new p h e i = subst (λ x. IsErased old x p) i (erased_none old p h e)

  -- a leaf is removed
  pub erased_leaf : (old new : Link V A) (p : Prefix) → IsLeafOf p old → new ≡ Empty → IsErased old new p
  erased_leaf Empty new p h e = absurd h
  erased_leaf (Leaf i j b) new p h e =
      let s : same_prefix b.value.prefix p ≡ true =
      same_rank b.value.prefix p (ap (λ (x : Prefix). x.base) h) (ap (λ (x : Prefix). x.len) h) in
      rw e (record { pairs_are = rw s refl; lawful = (tt, tt); stays = λ parent upper k. tt })
  erased_leaf (Fork' i j x left right q) new p h e = absurd h
  erased_leaf (Full' i j x left right q v) new p h e = absurd h
