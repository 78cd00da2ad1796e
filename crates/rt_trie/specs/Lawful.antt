-- When a trie is lawful, by the nodes that callers see.
use Rattle.std.specs.Prelude.{◌≡◌, Bool, true, false, IsSome, IfSome, map}
use Rattle.rt_cidr.specs.declared.prefixes.Prefix.{Prefix}
use Rattle.rt_trie.specs.Tree.{Tree, Vacant, Node, top, size, stored}
use Rattle.rt_trie.specs.Laws.{IsChildByBit}
use Rattle.rt_trie.specs.TrieContents.{TrieContents}

-- a node without a value has two children, and each child is longer than its parent, contained in it, and on the side of the
-- first bit after the parent's length
pub record IsLawfulAt (q : Prefix) (valued : Bool) (left right : Tree) : Type 0 where
  pub needed : valued ≡ false → IsSome (top left) × IsSome (top right)
  pub lower : IfSome (top left) (IsChildByBit q false)
  pub upper : IfSome (top right) (IsChildByBit q true)

-- every node is lawful
abbrev pub IsLawfulTree : Tree → Type 0
IsLawfulTree Vacant = Unit {0}
IsLawfulTree (Node q valued left right) = IsLawfulAt q valued left right × IsLawfulTree left × IsLawfulTree right

-- the trie is lawful: its tree is, exactly the prefixes of the map have values there, and `nodes` is its number of
-- nodes
pub record IsLawful {V : Type 0} (t : TrieContents V) : Type 0 where
  pub tree : IsLawfulTree t.tree
  pub stored : stored t.tree ≡ map (λ x. x.0) t.pairs
  pub count : size t.tree ≡ t.nodes
