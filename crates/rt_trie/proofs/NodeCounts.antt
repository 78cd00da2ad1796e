-- A lawful link has one node for each prefix that is stored or at which two stored ones diverge.
use Rattle.std.proofs.Common.{◌≡◌, ℕ, ◌+◌, ◌<◌, ◌⊎◌, [], ◌∷◌, ◌++◌, Option, Some, None, length, inl, inr, refl, ap, subst, arith, ◌↔◌, length-append}
use Rattle.std.specs.Prelude.{IfNone}
use Rattle.std.proofs.lemmas.Bool.{cases_lt, false≢true}
use Rattle.rt_cidr.specs.declared.prefixes.Prefix.{Prefix}
use Rattle.rt_cidr.specs.Cidr.{size_of}
use Rattle.rt_trie.specs.declared.nodes.Link.{Link, Empty, Leaf, Fork', Full'}
use Rattle.rt_trie.specs.Map.{Pairs, first, IsStored, IsOrdered}
use Rattle.rt_trie.specs.Halves.{IsInBlock, middle, past}
use Rattle.rt_trie.specs.inside.Lawful.{AreHalves, IsLawfulBelow, IsLawfulTrie, IsFilled}
use Rattle.rt_trie.specs.inside.Links.{own_pair, pairs, count}
use Rattle.rt_trie.specs.Nodes.{IsNodeAt, CountsNodes}
use Rattle.rt_trie.proofs.PrefixOrder.{same_rank}
use Rattle.rt_cidr.proofs.Promised.{size_pos}
use Rattle.rt_trie.proofs.Blocks.{lower_half, ends_before}
use Rattle.rt_trie.proofs.NodePairs.{AreSides, IsOrdered-node}
use Rattle.rt_trie.proofs.LinkOrder.{IsOn, AllWithin, node_within, pairs_within, filled_first}
use Rattle.rt_trie.proofs.StoredPairs.{stored-here, stored-more, stored-cases}

-- if the same two prefixes diverge at two prefixes, neither of these is shorter
not_shorter : (c q a b : Prefix) → IsInBlock c.base (middle c) (c.len + 1) a → IsInBlock (middle c) (past c) (c.len + 1) b
    → IsInBlock q.base (middle q) (q.len + 1) a → IsInBlock (middle q) (past q) (q.len + 1) b → c.len < q.len → ⊥
not_shorter c q a b ca cb qa qb short = elim (cases_lt q.base c.base) [
  | inl lt ↦ omega (arith, ends_before c q (omega arith) lt, qa.to, ca.from, size_pos a.len)
  | inr ge ↦ elim (cases_lt q.base (middle c)) [
    | inl low ↦ omega (arith, lower_half c q short low, qb.to, cb.from, size_pos b.len)
    | inr high ↦ omega (arith, qa.from, ca.to, size_pos a.len)
  ]
]

-- two prefixes diverge at only one prefix
one_parting : (c q a b : Prefix) → IsInBlock c.base (middle c) (c.len + 1) a → IsInBlock (middle c) (past c) (c.len + 1) b
    → IsInBlock q.base (middle q) (q.len + 1) a → IsInBlock (middle q) (past q) (q.len + 1) b → (q.base ≡ c.base) × (q.len ≡ c.len)
one_parting c q a b ca cb qa qb = elim (cases_lt c.len q.len) [
  | inl lt ↦ absurd (not_shorter c q a b ca cb qa qb lt)
  | inr ge ↦ elim (cases_lt q.len c.len) [
    | inl lt ↦ absurd (not_shorter q c a b qa qb ca cb lt)
    | inr le ↦ elim (cases_lt c.base q.base) [
      | inl lt ↦ absurd (omega (arith, ends_before q c ge lt, ca.to, qa.from, size_pos a.len))
      | inr from ↦ elim (cases_lt q.base c.base) [
        | inl lt ↦ absurd (omega (arith, ends_before c q le lt, qa.to, ca.from, size_pos a.len))
        | inr to ↦ (omega arith, omega arith)
      ]
    ]
  ]
]

module _ {V : Type 0} where
  stored-left : (xs ys : Pairs V) (p : Prefix) → IsStored xs p → IsStored (xs ++ ys) p
  stored-left [] ys p h = absurd (false≢true h)
  stored-left ((x, w) ∷ xs) ys p h = elim (stored-cases x w xs p h) [
    | inl e ↦ rw (same_rank x p e.0 e.1) refl
    | inr t ↦ stored-more x w (xs ++ ys) p (stored-left xs ys p t)
  ]

  stored-right : (xs ys : Pairs V) (p : Prefix) → IsStored ys p → IsStored (xs ++ ys) p
  stored-right [] ys p h = h
  stored-right ((x, w) ∷ xs) ys p h = stored-more x w (xs ++ ys) p (stored-right xs ys p h)

  stored-append : (xs ys : Pairs V) (p : Prefix) → IsStored (xs ++ ys) p → IsStored xs p ⊎ IsStored ys p
  stored-append [] ys p h = inr h
  stored-append ((x, w) ∷ xs) ys p h = elim (stored-cases x w (xs ++ ys) p h) [
    | inl e ↦ inl (rw (same_rank x p e.0 e.1) refl)
    | inr t ↦ elim (stored-append xs ys p t) [ inl i ↦ inl (stored-more x w xs p i) | inr i ↦ inr i ]
  ]

  -- a stored prefix is in the block
  stored-within : (xs : Pairs V) (lo hi len : ℕ) (p : Prefix) → AllWithin lo hi len xs → IsStored xs p → IsInBlock lo hi len p
  stored-within [] lo hi len p a h = absurd (false≢true h)
  stored-within ((x, w) ∷ xs) lo hi len p a h = elim (stored-cases x w xs p h) [
    | inl e ↦
        let s = ap size_of e.1 in
        let k = a.0 in
        record { long = omega (arith, k.long); from = omega (arith, k.from); to = omega (arith, k.to) }
    | inr t ↦ stored-within xs lo hi len p a.1 t
  ]

  -- the first prefix is stored
  first-stored : (m : Pairs V) (p : Prefix) → first m ≡ Some p → IsStored m p
  first-stored [] p h = cc
  first-stored ((x, w) ∷ m) p h = let e : x ≡ p = cc in subst (λ y. IsStored ((x, w) ∷ m) y) e (stored-here x w m)

  -- a prefix stored as a node's own pair is the node's prefix
  own-stored : (q : Prefix) (v : Option V) (p : Prefix) → IsStored (own_pair q v) p → (q.base ≡ p.base) × (q.len ≡ p.len)
  own-stored q None p h = absurd (false≢true h)
  own-stored q (Some w) p h = elim (stored-cases q w [] p h) [ inl e ↦ e | inr t ↦ absurd (false≢true t) ]

  -- a node of one side is a node of the whole
  node-more : (xs ys : Pairs V) (c : Prefix) → ((p : Prefix) → IsStored xs p → IsStored ys p) → IsNodeAt xs c → IsNodeAt ys c
  node-more xs ys c f (inl s) = inl (f c s)
  node-more xs ys c f (inr p) =
      inr (record { low = p.low; high = p.high; low_stored = f p.low p.low_stored; high_stored = f p.high p.high_stored; parts = p.parts })

  -- the part of a node's pairs in which a prefix is stored
  data Side (q : Prefix) (v : Option V) (xs ys : Pairs V) (p : Prefix) : Type 0 where
    own_side : (q.base ≡ p.base) × (q.len ≡ p.len) × IsStored (own_pair q v) p → Side q v xs ys p
    low_side : IsStored xs p → Side q v xs ys p
    high_side : IsStored ys p → Side q v xs ys p

  side_of : (q : Prefix) (v : Option V) (xs ys : Pairs V) (p : Prefix) → IsStored (own_pair q v ++ (xs ++ ys)) p → Side q v xs ys p
  side_of q v xs ys p h = elim (stored-append (own_pair q v) (xs ++ ys) p h) [
    | inl o ↦ let e = own-stored q v p o in own_side (e.0, e.1, o)
    | inr t ↦ elim (stored-append xs ys p t) [ inl l ↦ low_side l | inr r ↦ high_side r ]
  ]

module _ {V : Type 0} where
  -- the nodes of the whole, in terms of those of its sides
  node_each : (q : Prefix) (v : Option V) (xs ys : Pairs V) (ns ms : Pairs (Unit {0})) → AreSides q xs ys
      → (v ≡ None → (a : Prefix) × (b : Prefix) × (IsStored xs a) × (IsStored ys b))
      → ((c : Prefix) → IsStored ns c ↔ IsNodeAt xs c) → ((c : Prefix) → IsStored ms c ↔ IsNodeAt ys c)
      → (c : Prefix) → IsStored (own_pair q (Some tt) ++ (ns ++ ms)) c ↔ IsNodeAt (own_pair q v ++ (xs ++ ys)) c
  node_each q v xs ys ns ms sides both left right c = (to, back)
    where
      from_left : (p : Prefix) → IsStored xs p → IsStored (own_pair q v ++ (xs ++ ys)) p
      from_left p h = stored-right (own_pair q v) (xs ++ ys) p (stored-left xs ys p h)

      from_right : (p : Prefix) → IsStored ys p → IsStored (own_pair q v ++ (xs ++ ys)) p
      from_right p h = stored-right (own_pair q v) (xs ++ ys) p (stored-right xs ys p h)

      here : (o : Option V) → v ≡ o → (q.base ≡ c.base) × (q.len ≡ c.len) → IsNodeAt (own_pair q v ++ (xs ++ ys)) c
      here (Some w) e k = inl (rw (e, same_rank q c k.0 k.1) refl)
      here None e k =
          let b = both e in
          let s = ap size_of k.1 in
          let l = stored-within xs q.base (middle q) (q.len + 1) b.0 sides.lower b.2 in
          let h = stored-within ys (middle q) (past q) (q.len + 1) b.1 sides.upper b.3 in
          inr (record {
            low = b.0;
            high = b.1;
            low_stored = from_left b.0 b.2;
            high_stored = from_right b.1 b.3;
            parts = (
              record { long = omega (arith, l.long); from = omega (arith, l.from); to = omega (arith, l.to) },
              record { long = omega (arith, h.long); from = omega (arith, h.from); to = omega (arith, h.to) },
            );
          })

      to : IsStored (own_pair q (Some tt) ++ (ns ++ ms)) c → IsNodeAt (own_pair q v ++ (xs ++ ys)) c
      to h = elim (stored-cases q tt (ns ++ ms) c h) [
        | inl e ↦ here v refl e
        | inr t ↦ elim (stored-append ns ms c t) [
          | inl l ↦ node-more xs (own_pair q v ++ (xs ++ ys)) c from_left ((left c).0 l)
          | inr r ↦ node-more ys (own_pair q v ++ (xs ++ ys)) c from_right ((right c).0 r)
        ]
      ]

      at : (q.base ≡ c.base) × (q.len ≡ c.len) → IsStored (own_pair q (Some tt) ++ (ns ++ ms)) c
      at e = rw (same_rank q c e.0 e.1) refl

      in_left : IsNodeAt xs c → IsStored (own_pair q (Some tt) ++ (ns ++ ms)) c
      in_left h = stored-more q tt (ns ++ ms) c (stored-left ns ms c ((left c).1 h))

      in_right : IsNodeAt ys c → IsStored (own_pair q (Some tt) ++ (ns ++ ms)) c
      in_right h = stored-more q tt (ns ++ ms) c (stored-right ns ms c ((right c).1 h))

      low_within : (p : Prefix) → IsStored xs p → IsInBlock q.base (middle q) (q.len + 1) p
      low_within p h = stored-within xs q.base (middle q) (q.len + 1) p sides.lower h

      high_within : (p : Prefix) → IsStored ys p → IsInBlock (middle q) (past q) (q.len + 1) p
      high_within p h = stored-within ys (middle q) (past q) (q.len + 1) p sides.upper h

      parted : (a b : Prefix) → Side q v xs ys a → Side q v xs ys b → IsInBlock c.base (middle c) (c.len + 1) a
          → IsInBlock (middle c) (past c) (c.len + 1) b → IsStored (own_pair q (Some tt) ++ (ns ++ ms)) c
      parted a b (own_side e) (own_side f) l h = absurd (omega (arith, l.to, h.from, size_pos a.len))
      parted a b (own_side e) (low_side t) l h =
          let s = ap size_of e.1 in absurd (omega (arith, l.to, h.from, (low_within b t).to, size_pos b.len))
      parted a b (own_side e) (high_side t) l h =
          let s = ap size_of e.1 in absurd (omega (arith, l.to, h.from, (high_within b t).to, size_pos b.len))
      parted a b (low_side t) (own_side e) l h = absurd (omega (arith, l.to, h.from, (low_within a t).from, size_pos a.len))
      parted a b (high_side t) (own_side e) l h = absurd (omega (arith, l.to, h.from, (high_within a t).from, size_pos a.len))
      parted a b (low_side s) (low_side t) l h =
          in_left (inr (record { low = a; high = b; low_stored = s; high_stored = t; parts = (l, h) }))
      parted a b (high_side s) (high_side t) l h =
          in_right (inr (record { low = a; high = b; low_stored = s; high_stored = t; parts = (l, h) }))
      parted a b (low_side s) (high_side t) l h = at (one_parting c q a b l h (low_within a s) (high_within b t))
      parted a b (high_side s) (low_side t) l h =
          absurd (omega (arith, l.to, h.from, (high_within a s).from, (low_within b t).to, size_pos a.len, size_pos b.len))

      whole : Side q v xs ys c → IsStored (own_pair q (Some tt) ++ (ns ++ ms)) c
      whole (own_side e) = at (e.0, e.1)
      whole (low_side t) = in_left (inl t)
      whole (high_side t) = in_right (inl t)

      back : IsNodeAt (own_pair q v ++ (xs ++ ys)) c → IsStored (own_pair q (Some tt) ++ (ns ++ ms)) c
      back (inl s) = whole (side_of q v xs ys c s)
      back (inr p) =
          parted p.low p.high (side_of q v xs ys p.low p.low_stored) (side_of q v xs ys p.high p.high_stored) p.parts.0 p.parts.1

-- an empty map has no nodes
none_each : {V : Type 0} (c : Prefix) → IsStored {V = Unit {0}} [] c ↔ IsNodeAt {V = V} [] c
none_each c = (λ s. absurd (false≢true s), λ n. elim n [ inl s ↦ absurd (false≢true s) | inr p ↦ absurd (false≢true p.low_stored) ])

-- the prefixes of the nodes, in order
abbrev nodes_of : {V A : Type 0} → Link V A → Pairs (Unit {0})
nodes_of Empty = []
nodes_of (Leaf i j b) = own_pair b.value.prefix (Some tt)
nodes_of (Fork' i j p left right q) = own_pair q (Some tt) ++ (nodes_of left ++ nodes_of right)
nodes_of (Full' i j p left right q v) = own_pair q (Some tt) ++ (nodes_of left ++ nodes_of right)

module _ {V A : Type 0} where
  nodes_count : (link : Link V A) → length (nodes_of link) ≡ count link
  nodes_count Empty = refl
  nodes_count (Leaf i j b) = refl
  nodes_count (Fork' i j p left right q) =
      omega (arith, nodes_count left, nodes_count right, length-append (nodes_of left) (nodes_of right))
  nodes_count (Full' i j p left right q v) =
      omega (arith, nodes_count left, nodes_count right, length-append (nodes_of left) (nodes_of right))

  nodes_within : (link : Link V A) (lo hi len : ℕ) → IsLawfulBelow link → IsOn lo hi len link → AllWithin lo hi len (nodes_of link)
  nodes_within Empty lo hi len h on = tt
  nodes_within (Leaf i j b) lo hi len h on = (on, tt)
  nodes_within (Fork' i j p left right q) lo hi len h on =
      node_within lo hi len q (Some tt) (nodes_of left) (nodes_of right) on
      (nodes_within left q.base (middle q) (q.len + 1) h.1.0 h.0.lower)
      (nodes_within right (middle q) (past q) (q.len + 1) h.2.0 h.0.upper)
  nodes_within (Full' i j p left right q v) lo hi len h on =
      node_within lo hi len q (Some tt) (nodes_of left) (nodes_of right) on
      (nodes_within left q.base (middle q) (q.len + 1) h.1.0 h.0.lower)
      (nodes_within right (middle q) (past q) (q.len + 1) h.2.0 h.0.upper)

  node_sides : (q : Prefix) (left right : Link V A) → AreHalves q left right → IsLawfulTrie left → IsLawfulTrie right
      → AreSides q (nodes_of left) (nodes_of right)
  node_sides q left right h l r = record {
    lower = nodes_within left q.base (middle q) (q.len + 1) l.0 h.lower;
    upper = nodes_within right (middle q) (past q) (q.len + 1) r.0 h.upper;
  }

  nodes_ordered : (link : Link V A) → IsLawfulBelow link → IsOrdered (nodes_of link)
  nodes_ordered Empty h = tt
  nodes_ordered (Leaf i j b) h = (tt, tt)
  nodes_ordered (Fork' i j p left right q) h =
      IsOrdered-node q (Some tt) (nodes_of left) (nodes_of right) (node_sides q left right h.0 h.1 h.2) (nodes_ordered left h.1.0) (nodes_ordered right h.2.0)
  nodes_ordered (Full' i j p left right q v) h =
      IsOrdered-node q (Some tt) (nodes_of left) (nodes_of right) (node_sides q left right h.0 h.1 h.2) (nodes_ordered left h.1.0) (nodes_ordered right h.2.0)

  -- a filled link stores some prefix
  some_stored : (link : Link V A) → IsLawfulTrie link → IsFilled link → (p : Prefix) × IsStored (pairs link) p
  some_stored link h f = let i = filled_first link h f in (i.0, first-stored (pairs link) i.0 i.1)

  -- the nodes of a node's link, in terms of those of its sides
  sides_each : (q : Prefix) (v : Option V) (left right : Link V A) → AreHalves q left right → IsLawfulTrie left → IsLawfulTrie right
      → IfNone v (IsFilled left × IsFilled right) → ((c : Prefix) → IsStored (nodes_of left) c ↔ IsNodeAt (pairs left) c)
      → ((c : Prefix) → IsStored (nodes_of right) c ↔ IsNodeAt (pairs right) c)
      → (c : Prefix) → IsStored (own_pair q (Some tt) ++ (nodes_of left ++ nodes_of right)) c
      ↔ IsNodeAt (own_pair q v ++ (pairs left ++ pairs right)) c
  sides_each q v left right halves l r needed =
      let s : AreSides q (pairs left) (pairs right) = record {
        lower = pairs_within left q.base (middle q) (q.len + 1) l.0 halves.lower;
        upper = pairs_within right (middle q) (past q) (q.len + 1) r.0 halves.upper;
      } in
      node_each q v (pairs left) (pairs right) (nodes_of left) (nodes_of right) s (λ e. both v needed e)
    where
      both : (o : Option V) → IfNone o (IsFilled left × IsFilled right) → o ≡ None
          → (a : Prefix) × (b : Prefix) × (IsStored (pairs left) a) × (IsStored (pairs right) b)
      both None f e =
          let x = some_stored left l f.0 in
          let y = some_stored right r f.1 in
          (x.0, y.0, x.1, y.1)
      both (Some w) f e = cc

  nodes_each : (link : Link V A) → IsLawfulTrie link → (c : Prefix) → IsStored (nodes_of link) c ↔ IsNodeAt (pairs link) c
  nodes_each Empty h c = none_each {V = V} c
  nodes_each (Leaf i j b) h c =
      sides_each b.value.prefix (Some b.value.value) Empty Empty (record { lower = tt; upper = tt }) (tt, tt) (tt, tt) tt
      (none_each {V = V}) (none_each {V = V}) c
  nodes_each (Fork' i j p left right q) h c =
      sides_each q None left right h.0.0 h.0.1 h.0.2 h.1 (nodes_each left h.0.1) (nodes_each right h.0.2) c
  nodes_each (Full' i j p left right q v) h c =
      sides_each q v left right h.0.0 h.0.1 h.0.2 h.1 (nodes_each left h.0.1) (nodes_each right h.0.2) c

  -- the count of a lawful link's nodes
  pub counts_nodes : (link : Link V A) → IsLawfulTrie link → CountsNodes (pairs link) (count link)
  counts_nodes link h = record { nodes = nodes_of link; ordered = nodes_ordered link h.0; each = nodes_each link h; count = nodes_count link }
