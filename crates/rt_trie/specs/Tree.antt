-- The nodes of a trie as a tree of prefixes.
use Rattle.std.specs.Prelude.{ℕ, Bool, ◌+◌, ◌++◌, List, [], ◌∷◌, Option, Some, None, if◌then◌else◌}
use Rattle.rt_cidr.specs.declared.prefixes.Prefix.{Prefix}

-- no node, or a node: its prefix, whether it has a value, its lower and its upper side
pub data Tree : Type 0 where
  Vacant : Tree
  Node : Prefix → Bool → Tree → Tree → Tree

-- the prefix of the topmost node
abbrev pub top : Tree → Option Prefix
top Vacant = None
top (Node q valued left right) = Some q

-- the number of nodes
abbrev pub size : Tree → ℕ
size Vacant = 0
size (Node q valued left right) = size left + size right + 1

-- the prefixes that have values: a node's own, then those on its lower side, then those on its upper side
abbrev pub stored : Tree → List Prefix
stored Vacant = []
stored (Node q valued left right) = (if valued then q ∷ [] else []) ++ (stored left ++ stored right)
