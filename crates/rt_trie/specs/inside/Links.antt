-- The contents of a link: its pairs in order, the number of its nodes, the kind of its node, and what a look-up can
-- still find there. In an ordered list, the last pair that covers an address is the longest one that does.
use Rattle.std.specs.Prelude.{◌≡◌, ℕ, Box, ◌+◌, ◌++◌, [], ◌∷◌, Option, Some, None, IsNone, ◌⊎◌, ◌≤◌, nat_le, filter, IfSome, if◌then◌else◌}
use Rattle.std.specs.Prelude.{Bool, ◌&&◌}
use Rattle.std.specs.Option.{option_copied}
use Rattle.rt_cidr.specs.declared.prefixes.Prefix.{Prefix}
use Rattle.rt_trie.specs.declared.nodes.Link.{Link, Empty, Leaf, Fork', Full'}
use Rattle.rt_trie.specs.declared.nodes.Link.TheVariants.{Fork, Full}
use Rattle.rt_trie.specs.declared.nodes.LeafNode.{LeafNode}
use Rattle.rt_trie.specs.declared.nodes.ForkNode.{ForkNode}
use Rattle.rt_trie.specs.declared.nodes.FullNode.{FullNode}
use Rattle.rt_trie.specs.declared.nodes.NodeView.{NodeView}
use Rattle.rt_trie.specs.declared.nodes.NodeView.TheVariants.{Vacant, Single, Branch}
use Rattle.rt_trie.specs.Map.{Pairs}
use Rattle.rt_trie.specs.declared.nodes.Position.{Position}
use Rattle.rt_trie.specs.inside.Blocks.{StandsAt}
use Rattle.rt_trie.specs.inside.Lawful.{root, IsFilled, AreHalves, IsNeeded, IsLawfulBelow, IsLawfulTrie}
use Rattle.std.specs.Borrow.{Bor}
use Rattle.rt_cidr.specs.declared.address.Addr.{Addr}
use Rattle.rt_cidr.specs.Prefix.{covers}

-- a node's own pair, if it has a value
abbrev pub own_pair : {V : Type 0} → Prefix → Option V → Pairs V
own_pair q None = []
own_pair q (Some v) = (q, v) ∷ []

-- the pairs of the nodes that have a value: a node's own, then those on its left, then those on its right
abbrev pub pairs : {V A : Type 0} → Link V A → Pairs V
pairs Empty = []
pairs (Leaf len base b) = own_pair b.value.prefix (Some b.value.value)
pairs (Fork' len base p left right q) = pairs left ++ pairs right
pairs (Full' len base p left right q v) = own_pair q v ++ (pairs left ++ pairs right)

-- the number of nodes
abbrev pub count : {V A : Type 0} → Link V A → ℕ
count Empty = 0
count (Leaf len base b) = 1
count (Fork' len base p left right q) = count left + count right + 1
count (Full' len base p left right q v) = count left + count right + 1

-- a link to a node, with the node's key
abbrev pub leaf_link : {V A : Type 0} → Box (LeafNode V) A → Link V A
leaf_link b = Leaf b.value.prefix.len b.value.prefix.base b

abbrev pub fork_link : {V A : Type 0} → Box (ForkNode V A) A → Link V A
fork_link b = Fork b.value.prefix.len b.value.prefix.base b

abbrev pub full_link : {V A : Type 0} → Box (FullNode V A) A → Link V A
full_link b = Full b.value.prefix.len b.value.prefix.base b

-- the link holds a leaf of this prefix
abbrev pub IsLeafOf : {V A : Type 0} → Prefix → Link V A → Type 0
IsLeafOf q Empty = ⊥
IsLeafOf q (Leaf len base b) = b.value.prefix ≡ q
IsLeafOf q (Fork' len base p left right prefix) = ⊥
IsLeafOf q (Full' len base p left right prefix v) = ⊥

-- the link holds a fork of this prefix
abbrev pub IsForkOf : {V A : Type 0} → Prefix → Link V A → Type 0
IsForkOf q Empty = ⊥
IsForkOf q (Leaf len base b) = ⊥
IsForkOf q (Fork' len base p left right prefix) = prefix ≡ q
IsForkOf q (Full' len base p left right prefix v) = ⊥

-- the link holds a node with this base, and this is the position of p relative to it
pub record IsSeenFrom {V A : Type 0} (link : Link V A) (base : ℕ) (p : Prefix) (position : Position) : Type 0 where
  pub node : Prefix
  pub root_is : root link ≡ Some node
  pub base_is : base ≡ node.base
  pub stands : StandsAt node p position

-- the link is empty
abbrev pub IsVacant : {V A : Type 0} → Link V A → Type 0
IsVacant link = IsNone (root link)

-- a node has neither a value nor two children
abbrev pub IsLone : {V A : Type 0} → Link V A → Type 0
IsLone Empty = ⊥
IsLone (Leaf len base b) = ⊥
IsLone (Fork' len base p left right q) = IsVacant left ⊎ IsVacant right
IsLone (Full' len base p left right q v) = (v ≡ None) × (IsVacant left ⊎ IsVacant right)

-- the link holds a node with this prefix, value and sides, and everything below it is lawful
pub record IsNode {V A : Type 0} (link : Link V A) (q : Prefix) (v : Option V) (left right : Link V A) : Type 0 where
  pub pairs_are : pairs link ≡ own_pair q v ++ (pairs left ++ pairs right)
  pub root_is : root link ≡ Some q
  pub count_is : count link ≡ count left + count right + 1
  pub halves : AreHalves q left right
  pub left_lawful : IsLawfulTrie left
  pub right_lawful : IsLawfulTrie right

-- the view shows the link's node: its pairs, or, if everything below is lawful, its prefix, value and sides
abbrev pub IsNodeView : {V A : Type 0} → Link V A → NodeView V A → Type 0
IsNodeView link Vacant = pairs link ≡ []
IsNodeView link (Single q v) = pairs link ≡ (q, v.now) ∷ []
IsNodeView link (Branch q v left right) =
    (IsLawfulBelow link → IsNode link q (option_copied v) left.now right.now)
    × (IsNeeded link → option_copied v ≡ None → IsFilled left.now × IsFilled right.now)

-- the first of two answers
abbrev pub or_else : {X : Type 0} → Option X → Option X → Option X
or_else None d = d
or_else (Some x) d = Some x

-- the last pair that covers the address
abbrev pub last_cover : {V : Type 0} → Pairs V → Addr → Option (Prefix × V)
last_cover [] a = None
last_cover ((q, v) ∷ rest) a = or_else (last_cover rest a) (if covers q a then Some (q, v) else None)

-- the pairs whose prefix has at most `most` bits
abbrev pub no_longer : {V : Type 0} → ℕ → Pairs V → Pairs V
no_longer most m = filter (λ x. nat_le x.0.len most) m

-- the link's node, if it holds one, has at most `most` bits
abbrev pub IsNoLonger : {V A : Type 0} → ℕ → Link V A → Type 0
IsNoLonger most link = IfSome (root link) (λ q. q.len ≤ most)

-- the pairs below the link at which a look-up continues
abbrev pub pairs_below : {V A : Type 0} → Option (Bor (Link V A)) → Pairs V
pairs_below None = []
pairs_below (Some link) = pairs link.now

-- the final answer: from below the link at which the look-up continues, or else the best so far
abbrev pub sought : {V A : Type 0} → Option (Bor (Link V A)) → Addr → Option (Prefix × V) → Option (Prefix × V)
sought next a best = or_else (last_cover (pairs_below next) a) best

-- true if the prefix has at most `most` bits and covers the address
abbrev pub covers_to : ℕ → Prefix → Addr → Bool
covers_to most q a = nat_le q.len most && covers q a

-- the pairs whose prefix has at most `most` bits and covers the address
abbrev pub covering_to : {V : Type 0} → ℕ → Pairs V → Addr → Pairs V
covering_to most m a = filter (λ x. covers_to most x.0 a) m

-- the same pairs below the link at which the iteration over them continues
abbrev pub covering_below : {V A : Type 0} → Option (Bor (Link V A)) → ℕ → Addr → Pairs V
covering_below next most a = covering_to most (pairs_below next) a

-- the link at which the descent continues is lawful below
abbrev pub IsLawfulOn : {V A : Type 0} → Option (Bor (Link V A)) → Type 0
IsLawfulOn next = IfSome next (λ link. IsLawfulBelow link.now)
