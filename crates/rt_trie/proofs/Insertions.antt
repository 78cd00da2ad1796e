-- The effect on a link of each way to insert a pair.
use Rattle.std.proofs.Common.{◌≡◌, ℕ, ◌+◌, ◌<◌, ◌≤◌, Bool, true, false, [], ◌∷◌, ◌++◌, ◌⊎◌, Option, Some, None, inl}
use Rattle.std.proofs.Common.{inr, refl, sym, subst, ap, ◌∙◌, arith, append-nil}
use Rattle.std.specs.Prelude.{Box}
use Rattle.std.specs.Box.{with_value}
use Rattle.std.proofs.lemmas.Bool.{cases_lt}
use Rattle.rt_cidr.specs.declared.prefixes.Prefix.{Prefix}
use Rattle.rt_trie.specs.declared.nodes.Link.{Link, Empty, Leaf}
use Rattle.rt_trie.specs.declared.nodes.Link.TheVariants.{Fork, Full}
use Rattle.rt_trie.specs.declared.nodes.LeafNode.{LeafNode}
use Rattle.rt_trie.specs.declared.nodes.ForkNode.{ForkNode}
use Rattle.rt_trie.specs.declared.insertion.NewValue.{NewValue}
use Rattle.rt_trie.specs.declared.nodes.FullNode.{FullNode}
use Rattle.rt_trie.specs.Map.{get, put}
use Rattle.rt_trie.specs.declared.nodes.Position.TheVariants.{Above, Apart}
use Rattle.rt_trie.specs.Halves.{IsInBlock, IsChild, PartsAt, middle, past}
use Rattle.rt_trie.specs.inside.Lawful.{IsKeyOf, root, AreHalves, IsChildLink, IsFilled, IsLawfulBelow, IsLawfulTrie}
use Rattle.rt_trie.specs.inside.Blocks.{StandsAt}
use Rattle.rt_trie.specs.inside.Links.{own_pair, pairs, count, leaf_link, fork_link, full_link, IsNode}
use Rattle.rt_trie.specs.inside.Changes.{IsPut, IsInserted, IsRefused, Inserts}
use Rattle.rt_cidr.proofs.Promised.{size_pos}
use Rattle.rt_trie.proofs.Blocks.{lower_half}
use Rattle.rt_trie.proofs.JoinedPairs.{AllKeys, AllKeys-map, IsHigher, IsLower, IsOther, IsOther-higher, IsOther-lower}
use Rattle.rt_trie.proofs.JoinedPairs.{get-none, put-first, put-skip, put-front, put-here}
use Rattle.rt_trie.proofs.NodePairs.{sides_higher, upper_higher, lower_lower, own_lower}
use Rattle.rt_trie.proofs.Partings.{child_of_parts}
use Rattle.rt_trie.proofs.LinkOrder.{if_some_map, if_some_is, IsOn, IsView, pairs_within, sides_of, of_fork, of_full}
use Rattle.rt_trie.proofs.LinkOrder.{own_key, key_of_leaf, key_of_fork, key_of_full, view_fork, view_full}
use Rattle.rt_trie.proofs.LinkOrder.{node_get-unstored, get_left, get_right, get_own}

-- a prefix contained in another is in one of its halves
pub half_above : (q p : Prefix) → StandsAt q p Above → q.base < middle p → IsChild p false q
half_above q p w h = record { long = w.long; from = w.from; to = lower_half p q (omega (arith, w.long)) h }

pub half_above_upper : (q p : Prefix) → StandsAt q p Above → middle p ≤ q.base → IsChild p true q
half_above_upper q p w h = record { long = w.long; from = h; to = w.to }

module _ {V A : Type 0} where
  -- a full node, made of lawful sides
  pub made_full_below : (len base : ℕ) (b : Box (FullNode V A) A) (q : Prefix) (w : Option V) (l r : Link V A) → IsKeyOf len base q → b.value.prefix ≡ q
      → b.value.value ≡ w → b.value.left ≡ l → b.value.right ≡ r → AreHalves q l r → IsLawfulTrie l → IsLawfulTrie r
      → IsNode (Full len base b) q w l r × IsLawfulBelow (Full len base b)
  made_full_below len base b q w l r key e f i j h k m = (
    rw (e, f, i, j) (record { pairs_are = refl; root_is = refl; count_is = refl; halves = h; left_lawful = k; right_lawful = m }),
    rw (e, i, j) (h, k, m, key),
  )

  -- a full node with a value, made of lawful sides
  made_full_at : (len base : ℕ) (b : Box (FullNode V A) A) (q : Prefix) (v : V) (l r : Link V A) → IsKeyOf len base q → b.value.prefix ≡ q
      → b.value.value ≡ Some v → b.value.left ≡ l → b.value.right ≡ r → AreHalves q l r → IsLawfulTrie l → IsLawfulTrie r
      → IsNode (Full len base b) q (Some v) l r × IsLawfulTrie (Full len base b)
  made_full_at len base b q v l r key e f i j h k m =
      let n = made_full_below len base b q (Some v) l r key e f i j h k m in
      (n.0, (n.1, rw f tt))

  -- a full node in a link of its own
  made_full : (b : Box (FullNode V A) A) (q : Prefix) (v : V) (l r : Link V A) → b.value.prefix ≡ q → b.value.value ≡ Some v
      → b.value.left ≡ l → b.value.right ≡ r → AreHalves q l r → IsLawfulTrie l → IsLawfulTrie r
      → IsNode (full_link b) q (Some v) l r × IsLawfulTrie (full_link b)
  made_full b q v l r e f i j h k m =
      made_full_at b.value.prefix.len b.value.prefix.base b q v l r (rw e (own_key q)) e f i j h k m

  -- a fork, made of lawful sides that are both filled
  pub made_fork : (b : Box (ForkNode V A) A) (q : Prefix) (l r : Link V A) → b.value.prefix ≡ q → b.value.left ≡ l → b.value.right ≡ r
      → AreHalves q l r → IsLawfulTrie l → IsLawfulTrie r → IsFilled l → IsFilled r → IsNode (fork_link b) q None l r × IsLawfulTrie (fork_link b)
  made_fork b q l r e i j h k m f g = (
    rw (e, i, j) (record { pairs_are = refl; root_is = refl; count_is = refl; halves = h; left_lawful = k; right_lawful = m }),
    rw (e, i, j) ((h, k, m, own_key q), (f, g)),
  )

  -- the new link is a child where the old one was, if its root is p, or the old root
  stays_new : (old new : Link V A) (p : Prefix) → root new ≡ Some p
      → (parent : Prefix) (upper : Bool) → IsChildLink parent upper old → IsChild parent upper p → IsChildLink parent upper new
  stays_new old new p e parent upper h k = rw e k

  stays_old : (old new : Link V A) (p : Prefix) → root new ≡ root old
      → (parent : Prefix) (upper : Bool) → IsChildLink parent upper old → IsChild parent upper p → IsChildLink parent upper new
  stays_old old new p e parent upper h k = rw e h

  filled_of : (link : Link V A) (q : Prefix) → root link ≡ Some q → IsFilled link
  filled_of link q e = rw e refl

  -- a fork at p gets a value
  pub put_fill : (old new : Link V A) (p : Prefix) (v : V) (l r : Link V A) → IsNode old p None l r → IsNode new p (Some v) l r
      → IsLawfulTrie new → IsPut old new p v
  put_fill old new p v l r n m h = record {
    pairs_are = m.pairs_are ∙ sym (ap (λ x. put x p v) n.pairs_are
        ∙ put-first (pairs l ++ pairs r) p v (sides_higher p None (pairs l) (pairs r) (sides_of old p None l r n)));
    lawful = h;
    filled = filled_of new p m.root_is;
    stays = stays_new old new p m.root_is;
  }

  -- a value replaces another
  pub put_value : (old new : Link V A) (p : Prefix) (w : Option V) (v : V) (l r : Link V A) → IsNode old p w l r → IsNode new p (Some v) l r
      → IsLawfulTrie new → IsPut old new p v
  put_value old new p None v l r n m h = put_fill old new p v l r n m h
  put_value old new p (Some w) v l r n m h = record {
    pairs_are = m.pairs_are ∙ sym (ap (λ x. put x p v) n.pairs_are ∙ put-here (pairs l ++ pairs r) p w v);
    lawful = h;
    filled = filled_of new p m.root_is;
    stays = stays_new old new p m.root_is;
  }

  -- p is inserted below, on the left or on the right
  pub put_left : (old new : Link V A) (q : Prefix) (w : Option V) (l r k : Link V A) (p : Prefix) (v : V) → IsNode old q w l r
      → IsNode new q w k r → IsLawfulTrie new → IsChild q false p → IsPut l k p v → IsPut old new p v
  put_left old new q w l r k p v n m h c i = record {
    pairs_are = m.pairs_are ∙ sym (ap (λ x. put x p v) n.pairs_are
        ∙ put-skip (own_pair q w) (pairs l ++ pairs r) p v (own_lower q w (pairs l) (pairs r) (sides_of old q w l r n) p c.from (omega (arith, c.long)))
        ∙ ap (λ x. own_pair q w ++ x) (put-front (pairs l) (pairs r) p v
        (upper_higher q w (pairs l) (pairs r) (sides_of old q w l r n) p (omega (arith, c.to, size_pos p.len)))
        ∙ ap (λ x. x ++ pairs r) (sym i.pairs_are)));
    lawful = h;
    filled = filled_of new q m.root_is;
    stays = stays_old old new p (m.root_is ∙ sym n.root_is);
  }

  pub put_right : (old new : Link V A) (q : Prefix) (w : Option V) (l r k : Link V A) (p : Prefix) (v : V) → IsNode old q w l r
      → IsNode new q w l k → IsLawfulTrie new → IsChild q true p → IsPut r k p v → IsPut old new p v
  put_right old new q w l r k p v n m h c i = record {
    pairs_are = m.pairs_are ∙ sym (ap (λ x. put x p v) n.pairs_are
        ∙ put-skip (own_pair q w) (pairs l ++ pairs r) p v (own_lower q w (pairs l) (pairs r) (sides_of old q w l r n) p
        (omega (arith, c.from)) (omega (arith, c.long)))
        ∙ ap (λ x. own_pair q w ++ x) (put-skip (pairs l) (pairs r) p v
        (lower_lower q w (pairs l) (pairs r) (sides_of old q w l r n) p c.from)
        ∙ ap (λ x. pairs l ++ x) (sym i.pairs_are)));
    lawful = h;
    filled = filled_of new q m.root_is;
    stays = stays_old old new p (m.root_is ∙ sym n.root_is);
  }

  -- a link with one pair
  pub record IsLeafWith (link : Link V A) (p : Prefix) (v : V) : Type 0 where
    pub pairs_are : pairs link ≡ (p, v) ∷ []
    pub root_is : root link ≡ Some p
    pub lawful : IsLawfulTrie link

  pub made_leaf : (b : Box (LeafNode V) A) (p : Prefix) (v : V) → b.value.prefix ≡ p → b.value.value ≡ v → IsLeafWith (leaf_link b) p v
  made_leaf b p v e f = record { pairs_are = rw (e, f) refl; root_is = rw e refl; lawful = (own_key b.value.prefix, tt) }

  -- a child, as a link
  pub child_link : (parent : Prefix) (upper : Bool) (link : Link V A) (q : Prefix) → root link ≡ Some q → IsChild parent upper q
      → IsChildLink parent upper link
  child_link parent upper link q e h = rw e h

  -- everything in a link comes after a prefix that contains its root
  below_higher : (old : Link V A) (q p : Prefix) → IsLawfulTrie old → root old ≡ Some q → StandsAt q p Above → AllKeys (IsHigher p) (pairs old)
  below_higher old q p h e w =
      let on : IsOn q.base (past q) q.len old = rw e (record { long = omega arith; from = omega arith; to = omega arith }) in
      AllKeys-map (IsInBlock q.base (past q) q.len) (IsHigher p) (pairs old)
      (λ x k. omega (arith, k.long, k.from, w.long, w.from)) (pairs_within old q.base (past q) q.len h.0 on)

  pub get_above : (old : Link V A) (q p : Prefix) → IsLawfulTrie old → root old ≡ Some q → StandsAt q p Above → get (pairs old) p ≡ None
  get_above old q p h e w =
      get-none (pairs old) p (AllKeys-map (IsHigher p) (IsOther p) (pairs old) (λ x. IsOther-higher p x) (below_higher old q p h e w))

  -- p is inserted above
  pub put_above : (old new : Link V A) (q p : Prefix) (v : V) → IsLawfulTrie old → root old ≡ Some q → StandsAt q p Above → IsLawfulTrie new
      → root new ≡ Some p → pairs new ≡ (p, v) ∷ pairs old → IsPut old new p v
  put_above old new q p v h e w k i j = record {
    pairs_are = j ∙ sym (put-first (pairs old) p v (below_higher old q p h e w));
    lawful = k;
    filled = filled_of new p i;
    stays = stays_new old new p i;
  }

  pub put_above_left : (old new : Link V A) (q p : Prefix) (v : V) → IsLawfulTrie old → root old ≡ Some q → StandsAt q p Above → IsLawfulTrie new
      → IsNode new p (Some v) old Empty → IsPut old new p v
  put_above_left old new q p v h e w k n =
      put_above old new q p v h e w k n.root_is (n.pairs_are ∙ ap (λ x. (p, v) ∷ x) (append-nil (pairs old)))

  pub put_above_right : (old new : Link V A) (q p : Prefix) (v : V) → IsLawfulTrie old → root old ≡ Some q → StandsAt q p Above → IsLawfulTrie new
      → IsNode new p (Some v) Empty old → IsPut old new p v
  put_above_right old new q p v h e w k n = put_above old new q p v h e w k n.root_is n.pairs_are

  -- a full node for p, with the old link on the side that its root is on
  pub put_above_side : (old : Link V A) (q p : Prefix) (v : V) → IsLawfulTrie old → root old ≡ Some q → StandsAt q p Above → (sides : Link V A × Link V A)
      → (q.base < middle p → sides ≡ (old, Empty)) → (middle p ≤ q.base → sides ≡ (Empty, old)) → (b : Box (FullNode V A) A)
      → b.value.prefix ≡ p → b.value.value ≡ Some v → b.value.left ≡ sides.0 → b.value.right ≡ sides.1 → IsPut old (full_link b) p v
  put_above_side old q p v h e w sides lo hi b i j k m = elim (cases_lt q.base (middle p)) [
    | inl lt ↦
        let s = lo lt in
        let n = made_full b p v old Empty i j (k ∙ ap (λ (x : Link V A × Link V A). x.0) s) (m ∙ ap (λ (x : Link V A × Link V A). x.1) s)
        (record { lower = child_link p false old q e (half_above q p w lt); upper = tt }) h (tt, tt) in
        put_above_left old (full_link b) q p v h e w n.1 n.0
    | inr ge ↦
        let s = hi ge in
        let n = made_full b p v Empty old i j (k ∙ ap (λ (x : Link V A × Link V A). x.0) s) (m ∙ ap (λ (x : Link V A × Link V A). x.1) s)
        (record { lower = tt; upper = child_link p true old q e (half_above_upper q p w ge) }) (tt, tt) h in
        put_above_right old (full_link b) q p v h e w n.1 n.0
  ]

  -- a prefix disjoint from a link's root isn't stored in the link
  pub get_apart : (old : Link V A) (q p : Prefix) → IsLawfulTrie old → root old ≡ Some q → StandsAt q p Apart → get (pairs old) p ≡ None
  get_apart old q p h e w =
      let on : IsOn q.base (past q) q.len old = rw e (record { long = omega arith; from = omega arith; to = omega arith }) in
      get-none (pairs old) p (AllKeys-map (IsInBlock q.base (past q) q.len) (IsOther p) (pairs old)
      (λ x k.
      let s = x.is_prefix.short in
      let t = p.is_prefix.short in
      elim w [
        | inl o ↦ IsOther-lower p x (omega (arith, k.to, size_pos x.len))
        | inr o ↦ IsOther-higher p x (omega (arith, k.from, size_pos p.len))
      ])
      (pairs_within old q.base (past q) q.len h.0 on))

  -- a fork where p and the old link diverge, with p on the left
  pub part_left : (old leaf : Link V A) (q p c : Prefix) (v : V) → IsLawfulTrie old → root old ≡ Some q → IsLeafWith leaf p v → PartsAt c p q
      → (b : Box (ForkNode V A) A) → b.value.prefix ≡ c → b.value.left ≡ leaf → b.value.right ≡ old → IsPut old (fork_link b) p v
  part_left old leaf q p c v h e m k b i j o =
      let n = made_fork b c leaf old i j o
      (record { lower = child_link c false leaf p m.root_is k.0; upper = child_link c true old q e k.1 })
      m.lawful h (filled_of leaf p m.root_is) (filled_of old q e) in
      let on : IsOn (middle c) (past c) (c.len + 1) old = child_link c true old q e k.1 in
      let s = p.is_prefix.short in
      record {
        pairs_are = n.0.pairs_are ∙ ap (λ x. x ++ pairs old) m.pairs_are
            ∙ sym (put-first (pairs old) p v (AllKeys-map (IsInBlock (middle c) (past c) (c.len + 1)) (IsHigher p) (pairs old)
            (λ x w. omega (arith, w.from, k.0.to, size_pos p.len)) (pairs_within old (middle c) (past c) (c.len + 1) h.0 on)));
        lawful = n.1;
        filled = filled_of (fork_link b) c n.0.root_is;
        stays = λ parent upper w u. child_link parent upper (fork_link b) c n.0.root_is
            (child_of_parts parent c p q upper k u (rw e at w));
      }

  -- a fork where p and the old link diverge, with p on the right
  pub part_right : (old leaf : Link V A) (q p c : Prefix) (v : V) → IsLawfulTrie old → root old ≡ Some q → IsLeafWith leaf p v → PartsAt c q p
      → (b : Box (ForkNode V A) A) → b.value.prefix ≡ c → b.value.left ≡ old → b.value.right ≡ leaf → IsPut old (fork_link b) p v
  part_right old leaf q p c v h e m k b i j o =
      let n = made_fork b c old leaf i j o
      (record { lower = child_link c false old q e k.0; upper = child_link c true leaf p m.root_is k.1 })
      h m.lawful (filled_of old q e) (filled_of leaf p m.root_is) in
      let on : IsOn c.base (middle c) (c.len + 1) old = child_link c false old q e k.0 in
      record {
        pairs_are = n.0.pairs_are ∙ ap (λ x. pairs old ++ x) m.pairs_are
            ∙ sym (ap (λ x. put x p v) (sym (append-nil (pairs old)))
            ∙ put-skip (pairs old) [] p v (AllKeys-map (IsInBlock c.base (middle c) (c.len + 1)) (IsLower p) (pairs old)
            (λ x w. let s = x.is_prefix.short in omega (arith, w.to, k.1.from, size_pos x.len))
            (pairs_within old c.base (middle c) (c.len + 1) h.0 on)));
        lawful = n.1;
        filled = filled_of (fork_link b) c n.0.root_is;
        stays = λ parent upper w u. child_link parent upper (fork_link b) c n.0.root_is
            (child_of_parts parent c q p upper k (rw e at w) u);
      }

some_same : {X : Type 0} {x y : X} → Some x ≡ Some y → x ≡ y
some_same e = cc

module _ {V A : Type 0} where
  -- p is inserted below, in a side that k replaces
  inserted_below : (old new side k : Link V A) (p : Prefix) (given after : NewValue V A) (done : Bool) → ((v : V) → IsPut side k p v → IsPut old new p v)
      → get (pairs old) p ≡ get (pairs side) p → count new + count side ≡ count old + count k → (k ≡ side → new ≡ old)
      → Inserts side k p given after done → Inserts old new p given after done
  inserted_below old new side k p given after true put same counted back i = record {
    put = if_some_map given.value (IsPut side k p) (IsPut old new p) put i.put;
    had_is = i.had_is ∙ sym same;
    counted = omega (arith, i.counted, counted);
  }
  inserted_below old new side k p given after false put same counted back i =
      record { absent = same ∙ i.absent; back_is = i.back_is; same = back i.same; counted = i.counted }

  module _ (old : Link V A) (q : Prefix) (w : Option V) (l r k : Link V A) (make : Link V A → Link V A → Link V A) (p : Prefix)
      (given after : NewValue V A) (done : Bool) (x : IsView old q w l r make) (h : IsLawfulTrie old) where
    pub insert_left : IsChild q false p → Inserts l k p given after done → Inserts old (make k r) p given after done
    insert_left c =
        inserted_below old (make k r) l k p given after done
        (λ v j.
        let u = x.again k r (record { lower = j.stays q false x.node.halves.lower c; upper = x.node.halves.upper }) j.lawful x.node.right_lawful in
        put_left old (make k r) q w l r k p v x.node u.0 (u.1, x.needed k r (λ e. (j.filled, (x.filled h.1 e).1))) c j)
        (get_left old q w l r x.node p c) (omega (arith, x.node.count_is, x.counts k r)) (λ e. ap (λ y. make y r) e ∙ x.same)

    pub insert_right : IsChild q true p → Inserts r k p given after done → Inserts old (make l k) p given after done
    insert_right c =
        inserted_below old (make l k) r k p given after done
        (λ v j.
        let u = x.again l k (record { lower = x.node.halves.lower; upper = j.stays q true x.node.halves.upper c }) x.node.left_lawful j.lawful in
        put_right old (make l k) q w l r k p v x.node u.0 (u.1, x.needed l k (λ e. ((x.filled h.1 e).0, j.filled))) c j)
        (get_right old q w l r x.node p c) (omega (arith, x.node.count_is, x.counts l k)) (λ e. ap (λ y. make l y) e ∙ x.same)

  -- p is inserted on a side of a fork
  module _ {len base : ℕ} {b : Box (ForkNode V A) A} {n : ForkNode V A} {old : Link V A} (e : old ≡ Fork len base b) (f : n ≡ b.value) (h : IsLawfulTrie old)
      {p : Prefix} (given after : NewValue V A) (k : Link V A) (done : Bool) where
    pub insert_left_of_fork : ((q : Prefix) → IsKeyOf len base q → IsChild q false p) → Inserts n.left k p given after done
        → Inserts old (Fork len base (with_value b (record { prefix = n.prefix; left = k; right = n.right }))) p given after done
    insert_left_of_fork position =
        insert_left old n.prefix None n.left n.right k _ p given after done (view_fork b n old e f h.0) h (position n.prefix (key_of_fork b n old e f h.0))

    pub insert_right_of_fork : ((q : Prefix) → IsKeyOf len base q → IsChild q true p) → Inserts n.right k p given after done
        → Inserts old (Fork len base (with_value b (record { prefix = n.prefix; left = n.left; right = k }))) p given after done
    insert_right_of_fork position =
        insert_right old n.prefix None n.left n.right k _ p given after done (view_fork b n old e f h.0) h (position n.prefix (key_of_fork b n old e f h.0))

  -- p is inserted on a side of a full node
  module _ {len base : ℕ} {b : Box (FullNode V A) A} {n : FullNode V A} {old : Link V A} (e : old ≡ Full len base b) (f : n ≡ b.value) (h : IsLawfulTrie old)
      {p : Prefix} (given after : NewValue V A) (k : Link V A) (done : Bool) where
    pub insert_left_of_full : ((q : Prefix) → IsKeyOf len base q → IsChild q false p) → Inserts n.left k p given after done
        → Inserts old (Full len base (with_value b (record { prefix = n.prefix; value = n.value; left = k; right = n.right }))) p given after done
    insert_left_of_full position =
        insert_left old n.prefix n.value n.left n.right k _ p given after done (view_full b n old e f h.0) h (position n.prefix (key_of_full b n old e f h.0))

    pub insert_right_of_full : ((q : Prefix) → IsKeyOf len base q → IsChild q true p) → Inserts n.right k p given after done
        → Inserts old (Full len base (with_value b (record { prefix = n.prefix; value = n.value; left = n.left; right = k }))) p given after done
    insert_right_of_full position =
        insert_right old n.prefix n.value n.left n.right k _ p given after done (view_full b n old e f h.0) h (position n.prefix (key_of_full b n old e f h.0))

  -- the value of a full node and the one in the slot are exchanged
  pub insert_here : {len base : ℕ} (f : Box (FullNode V A) A) (m : FullNode V A) (old : Link V A) (n : ℕ) (p : Prefix)
      (given stored slot : Option V) → old ≡ Full len base f
      → m ≡ f.value → IsLawfulTrie old → p ≡ m.prefix → stored ≡ given → slot ≡ m.value
      → IsInserted old (Full len base (with_value f (record { prefix = m.prefix; value = stored; left = m.left; right = m.right }))) n n p given slot
  insert_here {len} {base} f m old n p given stored slot e g h i same had =
      let b = with_value f (record { prefix = m.prefix; value = stored; left = m.left; right = m.right }) in
      let x = of_full f m old e g h.0 in record {
        put = if_some_is given (IsPut old (Full len base b) p)
            (λ v o.
            let u = made_full_at len base b m.prefix v m.left m.right (key_of_full f m old e g h.0) refl
            (same ∙ o) refl refl x.halves x.left_lawful x.right_lawful in
            subst (λ y. IsPut old (Full len base b) y v) (sym i) (put_value old (Full len base b) m.prefix m.value v m.left m.right x u.0 u.1));
        had_is = had ∙ sym (get_own old m.prefix m.value m.left m.right x p i);
        counted = omega (arith, x.count_is);
      }

  -- the given value was inserted at a new prefix, and the slot is left empty
  inserted : (old new : Link V A) (n m : ℕ) (p : Prefix) (given slot stored : Option V) → stored ≡ given → slot ≡ None → get (pairs old) p ≡ None
      → m + count old ≡ n + count new → ((v : V) → stored ≡ Some v → IsPut old new p v) → IsInserted old new n m p given slot
  inserted old new n m p given slot stored e none absent counted put = record {
    put = if_some_is given (IsPut old new p) (λ v o. put v (e ∙ o));
    had_is = none ∙ sym absent;
    counted = counted;
  }

  -- nothing was done, and p isn't stored
  pub refused : (link : Link V A) (n : ℕ) (p : Prefix) (given : Option V) → get (pairs link) p ≡ None → IsRefused link link n n p given given
  refused link n p given h = record { absent = h; back_is = refl; same = refl; counted = refl }

  -- a leaf, as a node
  leaf_at : (len base : ℕ) (b : Box (LeafNode V) A) → IsNode (Leaf len base b) b.value.prefix (Some b.value.value) Empty Empty
  leaf_at len base b = record {
    pairs_are = refl;
    root_is = refl;
    count_is = refl;
    halves = record { lower = tt; upper = tt };
    left_lawful = (tt, tt);
    right_lawful = (tt, tt);
  }

  leaf_node : {len base : ℕ} (b : Box (LeafNode V) A) (old : Link V A) (q : Prefix) → old ≡ Leaf len base b → b.value.prefix ≡ q
      → IsNode old q (Some b.value.value) Empty Empty
  leaf_node {len} {base} b old q e f = subst (λ y. IsNode old y (Some b.value.value) Empty Empty) f (rw e (leaf_at len base b))

  -- a leaf is inserted into an empty link
  put_leaf : (k : Box (LeafNode V) A) (p : Prefix) (v : V) → k.value.prefix ≡ p → k.value.value ≡ v → IsPut Empty (leaf_link k) p v
  put_leaf k p v e f =
      let leaf = made_leaf k p v e f in
      record {
        pairs_are = leaf.pairs_are;
        lawful = leaf.lawful;
        filled = filled_of (leaf_link k) p leaf.root_is;
        stays = stays_new Empty (leaf_link k) p leaf.root_is;
      }

  pub empty_insert : (old : Link V A) (n m : ℕ) (p : Prefix) (given slot : Option V) (k : Box (LeafNode V) A) → old ≡ Empty → k.value.prefix ≡ p
      → given ≡ Some k.value.value → slot ≡ None → m ≡ n + 1 → IsInserted old (leaf_link k) n m p given slot
  empty_insert old n m p given slot k e f g none o =
      rw e (inserted Empty (leaf_link k) n m p given slot (Some k.value.value) (sym g) none refl (omega (arith, o))
      (λ v t. put_leaf k p v f (some_same t)))

  -- the value of a leaf and the one in the slot are exchanged
  pub insert_leaf : {len base : ℕ} (b : Box (LeafNode V) A) (m : LeafNode V) (old : Link V A) (n : ℕ) (p : Prefix)
      (given slot : Option V) (stored : V) → old ≡ Leaf len base b
      → m ≡ b.value → IsLawfulTrie old → p ≡ m.prefix → given ≡ Some stored → slot ≡ Some m.value
      → IsInserted old (Leaf len base (with_value b (record { prefix = m.prefix; value = stored }))) n n p given slot
  insert_leaf {len} {base} b m old n p given slot stored e g h i same had =
      let k = with_value b (record { prefix = m.prefix; value = stored }) in
      let x = leaf_node b old m.prefix e (sym (ap (λ (y : LeafNode V). y.prefix) g)) in
      let y = leaf_at len base k in
      let put : IsPut old (Leaf len base k) m.prefix stored =
      put_value old (Leaf len base k) m.prefix (Some b.value.value) stored Empty Empty x y (key_of_leaf b m old e g h.0, tt) in
      record {
        put = if_some_is given (IsPut old (Leaf len base k) p)
            (λ v o. subst (λ z. IsPut old (Leaf len base k) z v) (sym i) (subst (IsPut old (Leaf len base k) m.prefix) (some_same (sym same ∙ o)) put));
        had_is = had ∙ ap (λ (z : LeafNode V). Some z.value) g ∙ sym (get_own old m.prefix (Some b.value.value) Empty Empty x p i);
        counted = omega (arith, x.count_is);
      }

  -- the leaf at q becomes a full node, with the leaf of p on the side that p is on
  pub below_insert : {len base : ℕ} (b : Box (LeafNode V) A) (old : Link V A) (n m : ℕ) (q p : Prefix) (given slot : Option V) (v above : V)
      → old ≡ Leaf len base b → b.value.prefix ≡ q → above ≡ b.value.value → IsChild q false p ⊎ IsChild q true p → Some v ≡ given → slot ≡ None
      → m ≡ n + 1 → (k : Box (LeafNode V) A) → k.value.prefix ≡ p → k.value.value ≡ v → (sides : Link V A × Link V A)
      → (p.base < middle q → sides ≡ (leaf_link k, Empty)) → (middle q ≤ p.base → sides ≡ (Empty, leaf_link k)) → (x : Box (FullNode V A) A)
      → x.value.prefix ≡ q → x.value.value ≡ Some above → x.value.left ≡ sides.0 → x.value.right ≡ sides.1
      → IsInserted old (full_link x) n m p given slot
  below_insert b old n m q p given slot v above e f g child same none o k kp kv sides lo hi x i j l r =
      let a : IsNode old q (Some above) Empty Empty = subst (λ y. IsNode old q (Some y) Empty Empty) (sym g) (leaf_node b old q e f) in
      let leaf = made_leaf k p v kp kv in
      let put = put_leaf k p v kp kv in
      elim child [
        | inl c ↦
            let s = lo (omega (arith, c.to, size_pos p.len)) in
            let u = made_full x q above (leaf_link k) Empty i j (l ∙ ap (λ (t : Link V A × Link V A). t.0) s) (r ∙ ap (λ (t : Link V A × Link V A). t.1) s)
            (record { lower = child_link q false (leaf_link k) p leaf.root_is c; upper = tt }) leaf.lawful (tt, tt) in
            inserted old (full_link x) n m p given slot (Some v) same none (get_left old q (Some above) Empty Empty a p c)
            (omega (arith, o, a.count_is, u.0.count_is))
            (λ z t. subst (IsPut old (full_link x) p) (some_same t) (put_left old (full_link x) q (Some above) Empty Empty (leaf_link k) p v a u.0 u.1 c put))
        | inr c ↦
            let s = hi c.from in
            let u = made_full x q above Empty (leaf_link k) i j (l ∙ ap (λ (t : Link V A × Link V A). t.0) s) (r ∙ ap (λ (t : Link V A × Link V A). t.1) s)
            (record { lower = tt; upper = child_link q true (leaf_link k) p leaf.root_is c }) (tt, tt) leaf.lawful in
            inserted old (full_link x) n m p given slot (Some v) same none (get_right old q (Some above) Empty Empty a p c)
            (omega (arith, o, a.count_is, u.0.count_is))
            (λ z t. subst (IsPut old (full_link x) p) (some_same t) (put_right old (full_link x) q (Some above) Empty Empty (leaf_link k) p v a u.0 u.1 c put))
      ]

  -- the fork at p becomes a full node
  pub at_fork_insert : {len base : ℕ} (b : Box (ForkNode V A) A) (x : ForkNode V A) (old : Link V A) (n : ℕ)
      (p : Prefix) (given slot stored : Option V) → old ≡ Fork len base b
      → x ≡ b.value → IsLawfulTrie old → x.prefix ≡ p → stored ≡ given → slot ≡ None → (f : Box (FullNode V A) A) → f.value.prefix ≡ p
      → f.value.value ≡ stored → f.value.left ≡ x.left → f.value.right ≡ x.right → IsInserted old (full_link f) n n p given slot
  at_fork_insert b x old n p given slot stored e g h i same none f j k l r =
      let a = subst (λ q. IsNode old q None x.left x.right) i (of_fork b x old e g h.0) in
      inserted old (full_link f) n n p given slot stored same none (node_get-unstored old p x.left x.right a p (omega arith))
      (omega (arith, a.count_is, ap count l, ap count r))
      (λ v o.
      let u = made_full f p v x.left x.right j (k ∙ o) l r a.halves a.left_lawful a.right_lawful in
      put_fill old (full_link f) p v x.left x.right a u.0 u.1)

  -- a full node for p, with the old link on one of its sides
  pub above_insert : (old : Link V A) (n m : ℕ) (q p : Prefix) (given slot stored : Option V) → IsLawfulTrie old → root old ≡ Some q → StandsAt q p Above
      → stored ≡ given → slot ≡ None → m ≡ n + 1 → (sides : Link V A × Link V A) → (q.base < middle p → sides ≡ (old, Empty))
      → (middle p ≤ q.base → sides ≡ (Empty, old)) → (f : Box (FullNode V A) A) → f.value.prefix ≡ p → f.value.value ≡ stored
      → f.value.left ≡ sides.0 → f.value.right ≡ sides.1 → IsInserted old (full_link f) n m p given slot
  above_insert old n m q p given slot stored h e w same none o sides lo hi f i j k l =
      let c : count sides.0 + count sides.1 ≡ count old = elim (cases_lt q.base (middle p)) [
        | inl lt ↦ omega (arith, ap (λ (t : Link V A × Link V A). count t.0) (lo lt), ap (λ (t : Link V A × Link V A). count t.1) (lo lt))
        | inr ge ↦ omega (arith, ap (λ (t : Link V A × Link V A). count t.0) (hi ge), ap (λ (t : Link V A × Link V A). count t.1) (hi ge))
      ] in
      inserted old (full_link f) n m p given slot stored same none (get_above old q p h e w) (omega (arith, o, c, ap count k, ap count l))
      (λ v t. put_above_side old q p v h e w sides lo hi f i (j ∙ t) k l)

  -- a fork where p and the old link diverge, with the leaf of p on the side that p is on
  pub beside_insert : (old : Link V A) (n m : ℕ) (q p c : Prefix) (given slot : Option V) (k : Box (LeafNode V) A) → IsLawfulTrie old → root old ≡ Some q
      → StandsAt q p Apart → k.value.prefix ≡ p → given ≡ Some k.value.value → slot ≡ None → m ≡ n + 2 → (f : Box (ForkNode V A) A)
      → f.value.prefix ≡ c
      → (PartsAt c p q × (f.value.left ≡ leaf_link k) × (f.value.right ≡ old)) ⊎ (PartsAt c q p × (f.value.left ≡ old) × (f.value.right ≡ leaf_link k))
      → IsInserted old (fork_link f) n m p given slot
  beside_insert old n m q p c given slot k h e w i j none o f x s = elim s [
    | inl y ↦ inserted old (fork_link f) n m p given slot (Some k.value.value) (sym j) none (get_apart old q p h e w)
        (omega (arith, o, ap count y.1, ap count y.2))
        (λ v t. part_left old (leaf_link k) q p c v h e (made_leaf k p v i (some_same t)) y.0 f x y.1 y.2)
    | inr y ↦ inserted old (fork_link f) n m p given slot (Some k.value.value) (sym j) none (get_apart old q p h e w)
        (omega (arith, o, ap count y.1, ap count y.2))
        (λ v t. part_right old (leaf_link k) q p c v h e (made_leaf k p v i (some_same t)) y.0 f x y.1 y.2)
  ]
