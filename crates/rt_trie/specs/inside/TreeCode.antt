-- The code of a tree, by which a proof distinguishes trees: its nodes in order, with a gap for each empty side.
use Rattle.std.specs.Prelude.{◌≡◌, Bool, List, [], ◌∷◌, Option, Some, None, refl}
use Rattle.std.specs.Coded.{Coded, code_by, coded×, coded_bool, coded_list, coded_option}
use Rattle.rt_cidr.specs.declared.prefixes.Prefix.{Prefix}
use Rattle.rt_cidr.specs.contracts.prefixes.Prefix as prefix
use Rattle.rt_trie.specs.Tree.{Tree, Vacant, Node}

-- a node's prefix, and whether it has a value
abbrev pub Mark : Type 0
Mark = Prefix × Bool

-- the marks of a tree, followed by these: a node, then its lower side, then its upper side
abbrev pub marks_before : Tree → List (Option Mark) → List (Option Mark)
marks_before Vacant rest = None ∷ rest
marks_before (Node q valued left right) rest = Some (q, valued) ∷ marks_before left (marks_before right rest)

-- a node over the first two trees of the list
abbrev pub node_over : Mark → List Tree → List Tree
node_over m [] = []
node_over m (left ∷ []) = []
node_over m (left ∷ (right ∷ trees)) = Node m.0 m.1 left right ∷ trees

-- the trees that the marks encode
abbrev pub trees_of : List (Option Mark) → List Tree
trees_of [] = []
trees_of (None ∷ rest) = Vacant ∷ trees_of rest
trees_of (Some m ∷ rest) = node_over m (trees_of rest)

abbrev pub first_tree : List Tree → Tree
first_tree [] = Vacant
first_tree (tree ∷ trees) = tree

-- decoding the marks of a tree gives the tree
pub trees_are : (tree : Tree) (rest : List (Option Mark)) → trees_of (marks_before tree rest) ≡ tree ∷ trees_of rest
trees_are Vacant rest = refl
trees_are (Node q valued left right) rest = rw (trees_are left (marks_before right rest), trees_are right rest) refl

pub tree_back : (tree : Tree) → first_tree (trees_of (marks_before tree [])) ≡ tree
tree_back tree = rw (trees_are tree []) refl

abbrev pub tree_code : Coded Tree
tree_code =
    code_by (List (Option Mark)) (coded_list (coded_option (coded× prefix.the_row.coded coded_bool)))
    (λ tree. marks_before tree []) (λ marks. first_tree (trees_of marks)) tree_back
