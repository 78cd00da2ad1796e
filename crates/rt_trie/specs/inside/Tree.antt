-- The tree of the nodes that a link holds.
use Rattle.std.specs.Prelude.{true, false, is_some}
use Rattle.rt_trie.specs.declared.nodes.Link.{Link, Empty, Leaf, Fork', Full'}
use Rattle.rt_trie.specs.Tree.{Tree, Node, Vacant}

-- the nodes that a link holds
abbrev pub tree_of : {V A : Type 0} → Link V A → Tree
tree_of Empty = Vacant
tree_of (Leaf len base b) = Node b.value.prefix true Vacant Vacant
tree_of (Fork' len base p left right q) = Node q false (tree_of left) (tree_of right)
tree_of (Full' len base p left right q v) = Node q (is_some v) (tree_of left) (tree_of right)
