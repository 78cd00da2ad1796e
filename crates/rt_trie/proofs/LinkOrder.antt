-- The pairs of a lawful link are within its root's block, and in order.
use Rattle.std.proofs.Common.{◌≡◌, ℕ, suc, ◌⊎◌, ◌↔◌, ◌+◌, ◌<◌, ◌≤◌, [], ◌++◌, Option, Some, None, Bool, true, false}
use Rattle.std.proofs.Common.{cond, leb, inl, inr, refl, sym, subst, ap, ◌∙◌, arith}
use Rattle.rt_cidr.specs.declared.prefixes.Prefix.{Prefix}
use Rattle.std.specs.Prelude.{Box, IfNone, IfSome, is_some}
use Rattle.std.proofs.lemmas.Bool.{cases_lt, false≢true}
use Rattle.std.proofs.lemmas.Bool.Decides.{leb_tells}
use Rattle.std.specs.Borrow.{Bor}
use Rattle.std.specs.Option.{option_copied}
use Rattle.std.specs.Box.{with_value}
use Rattle.rt_cidr.specs.declared.address.Addr.{Addr}
use Rattle.rt_cidr.specs.Prefix.{covers}
use Rattle.rt_trie.specs.inside.Links.{or_else, last_cover, no_longer, IsNoLonger, own_pair, pairs, count, IsNode, IsForkOf, IsSeenFrom}
use Rattle.rt_trie.specs.declared.nodes.Link.{Link, Empty, Leaf, Fork', Full'}
use Rattle.rt_trie.specs.declared.nodes.Link.TheVariants.{Fork, Full}
use Rattle.rt_trie.specs.declared.nodes.LeafNode.{LeafNode}
use Rattle.rt_trie.specs.declared.nodes.ForkNode.{ForkNode}
use Rattle.rt_trie.specs.declared.nodes.FullNode.{FullNode}
use Rattle.rt_trie.specs.Map.{Pairs, same_prefix, get, first, next_after, before, IsOrdered, IsLongest}
use Rattle.rt_trie.specs.Halves.{IsInBlock, IsChild, middle, past}
use Rattle.rt_trie.specs.inside.Lawful.{IsKeyOf, root, AreHalves, IsFilled, IsNeeded, IsLawfulBelow, IsLawfulTrie}
use Rattle.rt_trie.specs.inside.Blocks.{StandsAt}
use Rattle.rt_trie.specs.declared.nodes.Position.{Position}
use Rattle.rt_trie.specs.declared.nodes.Position.TheVariants.{Here, Left, Right, Above, Apart}
use Rattle.rt_trie.proofs.PrefixOrder.{same_rank, same_tells, rank_of_before, rank_of_not_before}
use Rattle.rt_cidr.proofs.Promised.{size_pos}
use Rattle.rt_trie.proofs.NodePairs.{AreSides, IsJoined, get-lower, get-upper, get-here, get-past, IsOrdered-node, joined_to}
use Rattle.rt_trie.proofs.NodePairs.{step_lower, step_upper, step_none, no_longer_none}
use Rattle.rt_trie.proofs.NodePairs.{after-lower, after-upper, after-all, after-past}
use Rattle.rt_trie.proofs.JoinedPairs.{AllKeys, AllKeys-append, AllKeys-map, first-append}
use Rattle.rt_trie.proofs.LongestMatches.{longest_is}
use Rattle.rt_trie.proofs.Blocks.{past_fits}

-- the pairs are within a block
abbrev pub AllWithin : {V : Type 0} → ℕ → ℕ → ℕ → Pairs V → Type 0
AllWithin lo hi len xs = AllKeys (IsInBlock lo hi len) xs

-- a half of a prefix is within every block that the prefix is in
pub within_lower : (lo hi len : ℕ) (q x : Prefix) → IsInBlock lo hi len q → IsInBlock q.base (middle q) (q.len + 1) x → IsInBlock lo hi len x
within_lower lo hi len q x h k =
    record { long = omega (arith, h.long, k.long); from = omega (arith, h.from, k.from); to = omega (arith, h.to, k.to) }

pub within_upper : (lo hi len : ℕ) (q x : Prefix) → IsInBlock lo hi len q → IsInBlock (middle q) (past q) (q.len + 1) x → IsInBlock lo hi len x
within_upper lo hi len q x h k =
    record { long = omega (arith, h.long, k.long); from = omega (arith, h.from, k.from); to = omega (arith, h.to, k.to) }

module _ {V : Type 0} where
  -- the pairs of two halves are within every block that the whole is in
  pub halves_within : (lo hi len : ℕ) (q : Prefix) (xs ys : Pairs V) → IsInBlock lo hi len q
      → AllWithin q.base (middle q) (q.len + 1) xs → AllWithin (middle q) (past q) (q.len + 1) ys → AllWithin lo hi len (xs ++ ys)
  halves_within lo hi len q xs ys h l r =
      AllKeys-append (IsInBlock lo hi len) xs ys
      (AllKeys-map (IsInBlock q.base (middle q) (q.len + 1)) (IsInBlock lo hi len) xs (λ x. within_lower lo hi len q x h) l)
      (AllKeys-map (IsInBlock (middle q) (past q) (q.len + 1)) (IsInBlock lo hi len) ys (λ x. within_upper lo hi len q x h) r)

  -- the pairs of two halves and the prefix's own are within every block that the prefix is in
  pub node_within : (lo hi len : ℕ) (q : Prefix) (v : Option V) (xs ys : Pairs V) → IsInBlock lo hi len q
      → AllWithin q.base (middle q) (q.len + 1) xs → AllWithin (middle q) (past q) (q.len + 1) ys
      → AllWithin lo hi len (own_pair q v ++ (xs ++ ys))
  node_within lo hi len q None xs ys h l r = halves_within lo hi len q xs ys h l r
  node_within lo hi len q (Some v) xs ys h l r = (h, halves_within lo hi len q xs ys h l r)

-- a property of an option's value, if there is one, implies another
pub if_some_map : {X : Type 0} (o : Option X) (P Q : X → Type 0) → ((x : X) → P x → Q x) → IfSome o P → IfSome o Q
if_some_map None P Q f h = h
if_some_map (Some x) P Q f h = f x h

-- the link is empty, or holds a node within a block
abbrev pub IsOn : {V A : Type 0} → ℕ → ℕ → ℕ → Link V A → Type 0
IsOn lo hi len link = IfSome (root link) (IsInBlock lo hi len)

module _ {V A : Type 0} where
  pub pairs_within : (link : Link V A) (lo hi len : ℕ) → IsLawfulBelow link → IsOn lo hi len link → AllWithin lo hi len (pairs link)
  pairs_within Empty lo hi len h on = tt
  pairs_within (Leaf i j b) lo hi len h on = (on, tt)
  pairs_within (Fork' i j p left right q) lo hi len h on =
      node_within lo hi len q None (pairs left) (pairs right) on
      (pairs_within left q.base (middle q) (q.len + 1) h.1.0 h.0.lower)
      (pairs_within right (middle q) (past q) (q.len + 1) h.2.0 h.0.upper)
  pairs_within (Full' i j p left right q v) lo hi len h on =
      node_within lo hi len q v (pairs left) (pairs right) on
      (pairs_within left q.base (middle q) (q.len + 1) h.1.0 h.0.lower)
      (pairs_within right (middle q) (past q) (q.len + 1) h.2.0 h.0.upper)

pub own_key : (q : Prefix) → IsKeyOf q.len q.base q
own_key q = record { len_is = refl; base_is = refl }

-- a key's length is at most 32
pub key_short : {len base : ℕ} (q : Prefix) → IsKeyOf len base q → len ≤ 32
key_short q k = let s = q.is_prefix.short in omega (arith, k.len_is)

-- a common view of a fork and a full node: the node, and the same with other sides
pub record IsView {V A : Type 0} (link : Link V A) (q : Prefix) (v : Option V) (left right : Link V A)
    (with_sides : Link V A → Link V A → Link V A) : Type 0 where
  pub node : IsNode link q v left right
  pub same : with_sides left right ≡ link
  pub again : (l r : Link V A) → AreHalves q l r → IsLawfulTrie l → IsLawfulTrie r → IsNode (with_sides l r) q v l r × IsLawfulBelow (with_sides l r)
  pub counts : (l r : Link V A) → count (with_sides l r) ≡ count l + count r + 1
  pub needed : (l r : Link V A) → (v ≡ None → IsFilled l × IsFilled r) → IsNeeded (with_sides l r)
  pub filled : IsNeeded link → v ≡ None → IsFilled left × IsFilled right

if_none : {X : Type 0} (w : Option X) (P : Type 0) → (w ≡ None → P) → IfNone w P
if_none None P h = h refl
if_none (Some v) P h = tt

none_if : {X : Type 0} (w : Option X) (P : Type 0) → IfNone w P → w ≡ None → P
none_if None P h e = h
none_if (Some v) P h e = cc

module _ {V A : Type 0} where
  of_fork_at : (len base : ℕ) (b : Box (ForkNode V A) A) → IsLawfulBelow (Fork len base b)
      → IsNode (Fork len base b) b.value.prefix None b.value.left b.value.right
  of_fork_at len base b h = record { pairs_are = refl; root_is = refl; count_is = refl; halves = h.0; left_lawful = h.1; right_lawful = h.2 }

  of_full_at : (len base : ℕ) (b : Box (FullNode V A) A) → IsLawfulBelow (Full len base b)
      → IsNode (Full len base b) b.value.prefix b.value.value b.value.left b.value.right
  of_full_at len base b h = record { pairs_are = refl; root_is = refl; count_is = refl; halves = h.0; left_lawful = h.1; right_lawful = h.2 }

  view_fork_at : (len base : ℕ) (b : Box (ForkNode V A) A) → IsLawfulBelow (Fork len base b)
      → IsView (Fork len base b) b.value.prefix None b.value.left b.value.right
      (λ l r. Fork len base (with_value b (record { prefix = b.value.prefix; left = l; right = r })))
  view_fork_at len base b h = record {
    node = of_fork_at len base b h;
    same = refl;
    again = λ l r k i j. (record { pairs_are = refl; root_is = refl; count_is = refl; halves = k; left_lawful = i; right_lawful = j }, (k, i, j, h.3));
    counts = λ l r. refl;
    needed = λ l r k. k refl;
    filled = λ k e. k;
  }

  view_full_at : (len base : ℕ) (b : Box (FullNode V A) A) → IsLawfulBelow (Full len base b)
      → IsView (Full len base b) b.value.prefix b.value.value b.value.left b.value.right
      (λ l r. Full len base (with_value b (record { prefix = b.value.prefix; value = b.value.value; left = l; right = r })))
  view_full_at len base b h = record {
    node = of_full_at len base b h;
    same = refl;
    again = λ l r k i j. (record { pairs_are = refl; root_is = refl; count_is = refl; halves = k; left_lawful = i; right_lawful = j }, (k, i, j, h.3));
    counts = λ l r. refl;
    needed = λ l r. if_none b.value.value (IsFilled l × IsFilled r);
    filled = none_if b.value.value (IsFilled b.value.left × IsFilled b.value.right);
  }

  -- the link to a leaf
  module _ {len base : ℕ} (b : Box (LeafNode V) A) (n : LeafNode V) (link : Link V A) (e : link ≡ Leaf len base b) (f : n ≡ b.value) where
    -- its pairs
    pub of_leaf : pairs link ≡ own_pair n.prefix (Some n.value)
    of_leaf = rw (e, f) refl

    -- the link keeps its node's key
    pub key_of_leaf : IsLawfulBelow link → IsKeyOf len base n.prefix
    key_of_leaf h = let k : IsLawfulBelow (Leaf len base b) = subst IsLawfulBelow e h in rw f k

  -- the link to a fork
  module _ {len base : ℕ} (b : Box (ForkNode V A) A) (n : ForkNode V A) (link : Link V A) (e : link ≡ Fork len base b) (f : n ≡ b.value) where
    pub of_fork : IsLawfulBelow link → IsNode link n.prefix None n.left n.right
    of_fork h = rw (f, e) (of_fork_at len base b (subst IsLawfulBelow e h))

    pub key_of_fork : IsLawfulBelow link → IsKeyOf len base n.prefix
    key_of_fork h = let k : IsLawfulBelow (Fork len base b) = subst IsLawfulBelow e h in rw f k.3

    -- it has both sides
    pub fork_filled : IsNeeded link → IsFilled n.left × IsFilled n.right
    fork_filled h = let k : IsFilled b.value.left × IsFilled b.value.right = subst IsNeeded e h in rw f k

    pub fork_prefix : (p : Prefix) → IsForkOf p link → n.prefix ≡ p
    fork_prefix p h = let k : b.value.prefix ≡ p = subst (IsForkOf p) e h in rw f k

    pub view_fork : IsLawfulBelow link
        → IsView link n.prefix None n.left n.right (λ l r. Fork len base (with_value b (record { prefix = n.prefix; left = l; right = r })))
    view_fork h = rw (f, e) (view_fork_at len base b (subst IsLawfulBelow e h))

  -- the link to a full node
  module _ {len base : ℕ} (b : Box (FullNode V A) A) (n : FullNode V A) (link : Link V A) (e : link ≡ Full len base b) (f : n ≡ b.value) where
    pub of_full : IsLawfulBelow link → IsNode link n.prefix n.value n.left n.right
    of_full h = rw (f, e) (of_full_at len base b (subst IsLawfulBelow e h))

    pub key_of_full : IsLawfulBelow link → IsKeyOf len base n.prefix
    key_of_full h = let k : IsLawfulBelow (Full len base b) = subst IsLawfulBelow e h in rw f k.3

    -- it has both sides if it has no value
    pub full_filled : IsNeeded link → n.value ≡ None → IsFilled n.left × IsFilled n.right
    full_filled h v =
        let k : IfNone b.value.value (IsFilled b.value.left × IsFilled b.value.right) = subst IsNeeded e h in
        let j : IfNone n.value (IsFilled n.left × IsFilled n.right) = rw f k in
        rw v at j

    pub view_full : IsLawfulBelow link
        → IsView link n.prefix n.value n.left n.right
        (λ l r. Full len base (with_value b (record { prefix = n.prefix; value = n.value; left = l; right = r })))
    view_full h = rw (f, e) (view_full_at len base b (subst IsLawfulBelow e h))

  -- the length that a link keeps is at most 32
  pub short_leaf : {len base : ℕ} (b : Box (LeafNode V) A) (link : Link V A) → link ≡ Leaf len base b → IsLawfulBelow link → len ≤ 32
  short_leaf b link e h = key_short b.value.prefix (key_of_leaf b b.value link e refl h)

  pub short_fork : {len base : ℕ} (b : Box (ForkNode V A) A) (link : Link V A) → link ≡ Fork len base b → IsLawfulBelow link → len ≤ 32
  short_fork b link e h = key_short b.value.prefix (key_of_fork b b.value link e refl h)

  pub short_full : {len base : ℕ} (b : Box (FullNode V A) A) (link : Link V A) → link ≡ Full len base b → IsLawfulBelow link → len ≤ 32
  short_full b link e h = key_short b.value.prefix (key_of_full b b.value link e refl h)

  -- a position relative to the link's two numbers is the position relative to the node
  pub seen_from : {len base : ℕ} (link : Link V A) (q p : Prefix) (position : Position) → root link ≡ Some q → IsKeyOf len base q
      → ((x : Prefix) → IsKeyOf len base x → StandsAt x p position) → IsSeenFrom link base p position
  seen_from link q p position e k s = record { node = q; root_is = e; base_is = k.base_is; stands = s q k }

  -- the pairs of two lawful sides are in the halves
  pub sides_at : (q : Prefix) (left right : Link V A) → AreHalves q left right → IsLawfulTrie left → IsLawfulTrie right → AreSides q (pairs left) (pairs right)
  sides_at q left right h l r = record {
    lower = pairs_within left q.base (middle q) (q.len + 1) l.0 h.lower;
    upper = pairs_within right (middle q) (past q) (q.len + 1) r.0 h.upper;
  }

  module _ (link : Link V A) (q : Prefix) (v : Option V) (left right : Link V A) (n : IsNode link q v left right) where
    pub sides_of : AreSides q (pairs left) (pairs right)
    sides_of = sides_at q left right n.halves n.left_lawful n.right_lawful

    -- each side is lawful, with fewer nodes
    pub below_left : IsLawfulTrie left × (count left < count link)
    below_left = (n.left_lawful, omega (arith, n.count_is))

    pub below_right : IsLawfulTrie right × (count right < count link)
    below_right = (n.right_lawful, omega (arith, n.count_is))

    -- a look-up continues on one side, or ends here
    pub node_get-lower : (p : Prefix) → q.len < p.len → p.base < middle q → get (pairs link) p ≡ get (pairs left) p
    node_get-lower p h k =
        ap (λ m. get m p) n.pairs_are ∙ get-lower q v (pairs left) (pairs right) sides_of p h k

    pub node_get-upper : (p : Prefix) → q.len < p.len → middle q ≤ p.base → get (pairs link) p ≡ get (pairs right) p
    node_get-upper p h k =
        ap (λ m. get m p) n.pairs_are ∙ get-upper q v (pairs left) (pairs right) sides_of p h k

    pub node_get-here : (p : Prefix) → p.len ≤ q.len → same_prefix q p ≡ true → get (pairs link) p ≡ v
    node_get-here p h k =
        ap (λ m. get m p) n.pairs_are ∙ get-here q v (pairs left) (pairs right) sides_of p h k

    pub node_get-past : (p : Prefix) → p.len ≤ q.len → same_prefix q p ≡ false → get (pairs link) p ≡ None
    node_get-past p h k =
        ap (λ m. get m p) n.pairs_are ∙ get-past q v (pairs left) (pairs right) sides_of p h k

    -- the link's pairs are the node's own followed by those on its sides
    pub joined : IsJoined (pairs link) q v (pairs left) (pairs right)
    joined = record { pairs_are = n.pairs_are; sides = sides_of }

    -- the same of the pairs with at most `most` bits, if the node has at most `most` bits
    kept_joined : (most : ℕ) → IsNoLonger most link → IsJoined (no_longer most (pairs link)) q v (no_longer most (pairs left)) (no_longer most (pairs right))
    kept_joined most h = joined_to most (pairs link) q v (pairs left) (pairs right) joined (rw n.root_is at h)

  pub node_get-unstored : (link : Link V A) (q : Prefix) (left right : Link V A) (n : IsNode link q None left right) (p : Prefix)
      → p.len ≤ q.len → get (pairs link) p ≡ None
  node_get-unstored link q left right n p h = elim (same_tells q p) [
    | inl s ↦ node_get-here link q None left right n p h s.0
    | inr s ↦ node_get-past link q None left right n p h s.0
  ]

  -- the pairs of a lawful link are in order
  pub pairs_ordered : (link : Link V A) → IsLawfulBelow link → IsOrdered (pairs link)
  pairs_ordered Empty h = tt
  pairs_ordered (Leaf i j b) h = (tt, tt)
  pairs_ordered (Fork' i j p left right q) h =
      IsOrdered-node q None (pairs left) (pairs right) (sides_at q left right h.0 h.1 h.2) (pairs_ordered left h.1.0) (pairs_ordered right h.2.0)
  pairs_ordered (Full' i j p left right q v) h =
      IsOrdered-node q v (pairs left) (pairs right) (sides_at q left right h.0 h.1 h.2) (pairs_ordered left h.1.0) (pairs_ordered right h.2.0)

  -- a look-up among pairs with at most `most` bits continues on the side that `side` selects for the address's offset
  pub step_side : (link : Link V A) (q : Prefix) (v : Option V) (left right below : Bor (Link V A)) (n : IsNode link q v left.now right.now)
      (most : ℕ) → IsNoLonger most link → (a : Addr) (best found : Option (Prefix × V)) (offset : ℕ)
      → (q.len < 32 → (2147483648 ≤ offset) ↔ (middle q ≤ a.0)) → (q.len ≡ 32 → offset < 2147483648)
      → below ≡ cond (leb (suc offset) 2147483648) left right → or_else (last_cover (own_pair q v) a) best ≡ found
      → or_else (last_cover (no_longer most (pairs below.now)) a) found ≡ or_else (last_cover (no_longer most (pairs link)) a) best
  step_side link q v left right below n most short a best found offset half none e f =
      let s = q.is_prefix.short in
      let j = kept_joined link q v left.now right.now n most short in
      elim (leb_tells (suc offset) 2147483648) [
        | inl lo ↦
            let b : below ≡ left = e ∙ ap (λ c. cond c left right) lo.0 in
            rw b (step_lower _ q v _ _ j a best found (λ short high. absurd (omega (arith, lo.1, (half short).1 high))) f)
        | inr hi ↦
            let b : below ≡ right = e ∙ ap (λ c. cond c left right) hi.0 in
            rw b (step_upper _ q v _ _ j a best found (elim (cases_lt q.len 32) [
              | inl short ↦ (half short).0 (omega (arith, hi.1))
              | inr ge ↦ absurd (omega (arith, hi.1, none (omega arith)))
            ]) f)
      ]

  -- it ends here if the node doesn't cover the address
  pub step_ends : (link : Link V A) (q : Prefix) (v : Option V) (left right : Link V A) (n : IsNode link q v left right)
      (most : ℕ) → IsNoLonger most link → (a : Addr) (best : Option (Prefix × V)) → covers q a ≡ false
      → best ≡ or_else (last_cover (no_longer most (pairs link)) a) best
  step_ends link q v left right n most short a best h = step_none _ q v _ _ (kept_joined link q v left right n most short) a best h

  -- a node longer than `most` bits, and everything below it, is longer than `most` bits
  pub none_no_longer : (link : Link V A) (most : ℕ) → IsLawfulBelow link → IfSome (root link) (λ q. most < q.len) → no_longer most (pairs link) ≡ []
  none_no_longer link most h on =
      let block = IsInBlock 0 4294967296 (most + 1) in
      no_longer_none most (pairs link) (AllKeys-map block (λ x. most < x.len) (pairs link) (λ x w. omega (arith, w.long))
      (pairs_within link 0 4294967296 (most + 1) h
      (if_some_map (root link) (λ q. most < q.len) block (λ q lt. record { long = omega arith; from = omega arith; to = past_fits q }) on)))

  -- the side that is picked is lawful, and has fewer nodes
  picked_below : (link : Link V A) (q : Prefix) (v : Option V) (left right below : Bor (Link V A)) (n : IsNode link q v left.now right.now) (lower : Bool)
      → below ≡ cond lower left right → IsLawfulBelow below.now × (count below.now < count link)
  picked_below link q v left right below n true e = rw e (n.left_lawful.0, omega (arith, n.count_is))
  picked_below link q v left right below n false e = rw e (n.right_lawful.0, omega (arith, n.count_is))

  pub side_below : (link : Link V A) (q : Prefix) (v : Option V) (left right below : Bor (Link V A)) (n : IsNode link q v left.now right.now) (offset : ℕ)
      → below ≡ cond (leb (suc offset) 2147483648) left right → IsLawfulBelow below.now × (count below.now < count link)
  side_below link q v left right below n offset e = picked_below link q v left right below n (leb (suc offset) 2147483648) e

  -- the last pair that covers the address is the longest
  pub longest_of : (link : Link V A) (a : Addr) (o : Option (Prefix × V)) → IsLawfulBelow link → last_cover (pairs link) a ≡ o
      → IsLongest (pairs link) a o
  longest_of link a o h e = subst (λ x. IsLongest (pairs link) a x) e (longest_is (pairs link) a (pairs_ordered link h))

  pub of_empty : (link : Link V A) → link ≡ Empty → pairs link ≡ []
  of_empty link e = rw e refl

  -- a lawful link that holds a node has a first pair
  pub filled_first : (link : Link V A) → IsLawfulTrie link → IsFilled link → (p : Prefix) × (first (pairs link) ≡ Some p)
  filled_first Empty h f = absurd (false≢true f)
  filled_first (Leaf i j b) h f = (b.value.prefix, refl)
  filled_first (Fork' i j p left right q) h f =
      let i = filled_first left h.0.1 h.1.0 in
      (i.0, first-append (pairs left) (pairs right) ∙ ap (λ o. or_else o (first (pairs right))) i.1)
  filled_first (Full' i j p left right q (Some v)) h f = (q, refl)
  filled_first (Full' i j p left right q None) h f =
      let i = filled_first left h.0.1 h.1.0 in
      (i.0, first-append (pairs left) (pairs right) ∙ ap (λ o. or_else o (first (pairs right))) i.1)

  -- the first pair of a node with a value is its own
  pub first_own : (link : Link V A) (q : Prefix) (v : Option (Bor V)) (left right : Link V A) → IsNode link q (option_copied v) left right → true ≡ is_some v
      → first (pairs link) ≡ Some q
  first_own link q None left right n h = absurd (false≢true (sym h))
  first_own link q (Some x) left right n h = ap first n.pairs_are

  -- the first pair of a node without a value is the first on its left
  pub first_left : (link : Link V A) (q : Prefix) (v : Option V) (left right : Link V A) → IsNode link q v left right → v ≡ None → IsFilled left
      → first (pairs link) ≡ first (pairs left)
  first_left link q v left right n e f =
      let i = filled_first left n.left_lawful f in
      ap first n.pairs_are ∙ ap (λ v. first (own_pair q v ++ (pairs left ++ pairs right))) e
      ∙ first-append (pairs left) (pairs right) ∙ ap (λ o. or_else o (first (pairs right))) i.1 ∙ sym i.1

pub none_unless : {X : Type 0} (o : Option X) → ((x : X) → o ≡ Some x → ⊥) → o ≡ None
none_unless None h = refl
none_unless (Some x) h = absurd (h x refl)

pub none_of : {X : Type 0} (o : Option X) → false ≡ is_some o → o ≡ None
none_of None h = refl
none_of (Some x) h = absurd (false≢true h)

module _ {V A : Type 0} where
  module _ (link : Link V A) (q : Prefix) (v : Option V) (left right : Link V A) (n : IsNode link q v left right) where
    -- the next prefix after p, by the position of p relative to the node
    pub node_after-lower : (p : Prefix) (r : Position) → StandsAt q p r → (r ≡ Here) ⊎ (r ≡ Left)
        → next_after (pairs link) p ≡ or_else (next_after (pairs left) p) (first (pairs right))
    node_after-lower p r s e =
        ap (λ m. next_after m p) n.pairs_are
        ∙ elim e [
          | inl h ↦ let i : p ≡ q = subst (StandsAt q p) h s in here i
          | inr h ↦ let w : IsInBlock q.base (middle q) (q.len + 1) p = subst (StandsAt q p) h s in
              let t = q.is_prefix.short in
              after-lower q v (pairs left) (pairs right) (sides_of link q v left right n) p (omega (arith, w.from, w.long))
              (λ y k. let u = p.is_prefix.short in omega (arith, w.to, k.from, size_pos p.len))
        ]
      where
        here : p ≡ q → next_after (own_pair q v ++ (pairs left ++ pairs right)) p ≡ or_else (next_after (pairs left) p) (first (pairs right))
        here i = rw i (after-lower q v (pairs left) (pairs right) (sides_of link q v left right n) q (omega arith)
            (λ y k. omega (arith, k.long, k.from)))

    pub node_after-upper : (p : Prefix) (r : Position) → StandsAt q p r → r ≡ Right → next_after (pairs link) p ≡ next_after (pairs right) p
    node_after-upper p r s h =
        let w : IsInBlock (middle q) (past q) (q.len + 1) p = subst (StandsAt q p) h s in
        ap (λ m. next_after m p) n.pairs_are
        ∙ after-upper q v (pairs left) (pairs right) (sides_of link q v left right n) p (omega (arith, w.from, w.long)) w.from

    pub node_after-all : (p : Prefix) → before p q ≡ true → next_after (pairs link) p ≡ first (pairs link)
    node_after-all p h =
        ap (λ m. next_after m p) n.pairs_are
        ∙ after-all q v (pairs left) (pairs right) (sides_of link q v left right n) p (rank_of_before p q h) ∙ sym (ap first n.pairs_are)

    pub node_after-none : (p : Prefix) (r : Position) → StandsAt q p r → (r ≡ Above) ⊎ (r ≡ Apart) → before p q ≡ false → next_after (pairs link) p ≡ None
    node_after-none p r s e h =
        ap (λ m. next_after m p) n.pairs_are
        ∙ after-past q v (pairs left) (pairs right) (sides_of link q v left right n) p (elim e [
          | inl i ↦ let w : IsInBlock p.base (past p) (p.len + 1) q = subst (StandsAt q p) i s in
              absurd (omega (arith, rank_of_not_before p q h, w.from, w.long))
          | inr i ↦ let w : (past q ≤ p.base) ⊎ (past p ≤ q.base) = subst (StandsAt q p) i s in elim w [
            | inl k ↦ k
            | inr k ↦ let t = p.is_prefix.short in absurd (omega (arith, rank_of_not_before p q h, size_pos p.len))
          ]
        ])

-- a fork's prefix isn't stored
pub fork_absent : {V A : Type 0} (link : Link V A) (p : Prefix) → IsLawfulTrie link → IsForkOf p link → get (pairs link) p ≡ None
fork_absent Empty p h f = refl
fork_absent (Leaf i j b) p h f = absurd f
fork_absent (Fork' i j q left right prefix) p h f =
    let n : IsNode (Fork' i j q left right prefix) prefix None left right = record {
      pairs_are = refl;
      root_is = refl;
      count_is = refl;
      halves = h.0.0;
      left_lawful = h.0.1;
      right_lawful = h.0.2;
    } in
    node_get-unstored (Fork' i j q left right prefix) prefix left right n p (omega (arith, ap (λ (x : Prefix). x.len) f))
fork_absent (Full' i j q left right prefix v) p h f = absurd f

pub if_some_is : {X : Type 0} (o : Option X) (P : X → Type 0) → ((x : X) → o ≡ Some x → P x) → IfSome o P
if_some_is None P f = tt
if_some_is (Some x) P f = f x refl

module _ {V A : Type 0} where
  module _ (link : Link V A) (q : Prefix) (v : Option V) (left right : Link V A) (n : IsNode link q v left right) where
    -- the value at a prefix on one side of a node is the value in that side's link
    pub get_left : (p : Prefix) → IsChild q false p → get (pairs link) p ≡ get (pairs left) p
    get_left p c = node_get-lower link q v left right n p (omega (arith, c.long)) (omega (arith, c.to, size_pos p.len))

    pub get_right : (p : Prefix) → IsChild q true p → get (pairs link) p ≡ get (pairs right) p
    get_right p c = node_get-upper link q v left right n p (omega (arith, c.long)) c.from

    -- the value at a node's own prefix is the node's value
    pub get_own : (p : Prefix) → p ≡ q → get (pairs link) p ≡ v
    get_own p i =
        node_get-here link q v left right n p (omega (arith, ap (λ (x : Prefix). x.len) i))
        (same_rank q p (sym (ap (λ (x : Prefix). x.base) i)) (sym (ap (λ (x : Prefix). x.len) i)))
