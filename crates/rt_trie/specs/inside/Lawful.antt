-- When a trie is lawful, by its links and nodes and by blocks of addresses, which is how the code descends.
use Rattle.std.specs.Prelude.{◌≡◌, ℕ, Bool, true, false, Option, Some, None, IfSome, IfNone, IsSome}
use Rattle.rt_cidr.specs.declared.prefixes.Prefix.{Prefix}
use Rattle.rt_trie.specs.declared.nodes.Link.{Link, Empty, Leaf, Fork', Full'}
use Rattle.rt_trie.specs.Halves.{IsChild}

-- the length and the base are those of the prefix: its key
pub record IsKeyOf (len base : ℕ) (q : Prefix) : Type 0 where
  pub len_is : len ≡ q.len
  pub base_is : base ≡ q.base

-- the prefix of the node that the link holds
abbrev pub root : {V A : Type 0} → Link V A → Option Prefix
root Empty = None
root (Leaf len base b) = Some b.value.prefix
root (Fork' len base p left right q) = Some q
root (Full' len base p left right q v) = Some q

-- the link holds a node
abbrev pub IsFilled : {V A : Type 0} → Link V A → Type 0
IsFilled link = IsSome (root link)

-- the link is empty, or holds a child of the parent on that side
abbrev pub IsChildLink : {V A : Type 0} → Prefix → Bool → Link V A → Type 0
IsChildLink parent upper link = IfSome (root link) (IsChild parent upper)

-- each child is longer than its parent, contained in it, and in the half of its addresses that the next bit selects
pub record AreHalves {V A : Type 0} (q : Prefix) (left right : Link V A) : Type 0 where
  pub lower : IsChildLink q false left
  pub upper : IsChildLink q true right

-- a node without a value has two children
abbrev pub IsNeeded : {V A : Type 0} → Link V A → Type 0
IsNeeded Empty = Unit {0}
IsNeeded (Leaf len base b) = Unit {0}
IsNeeded (Fork' len base p left right q) = IsFilled left × IsFilled right
IsNeeded (Full' len base p left right q v) = IfNone v (IsFilled left × IsFilled right)

-- the link keeps its node's key, and everything below the node is lawful
abbrev pub IsLawfulBelow : {V A : Type 0} → Link V A → Type 0
IsLawfulBelow Empty = Unit {0}
IsLawfulBelow (Leaf len base b) = IsKeyOf len base b.value.prefix
IsLawfulBelow (Fork' len base p left right q) =
    AreHalves q left right × (IsLawfulBelow left × IsNeeded left) × (IsLawfulBelow right × IsNeeded right) × IsKeyOf len base q
IsLawfulBelow (Full' len base p left right q v) =
    AreHalves q left right × (IsLawfulBelow left × IsNeeded left) × (IsLawfulBelow right × IsNeeded right) × IsKeyOf len base q

-- every child is longer than its parent, contained in it and on the side of the next bit; every node without a value
-- has two children; every link keeps its node's key
abbrev pub IsLawfulTrie : {V A : Type 0} → Link V A → Type 0
IsLawfulTrie link = IsLawfulBelow link × IsNeeded link
