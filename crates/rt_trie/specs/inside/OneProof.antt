-- That a trie is lawful, and that pairs are in order, each has at most one proof, so a ghost field may keep it.
use Rattle.std.specs.Prelude.{◌≡◌, Bool, List, [], ◌∷◌}
use Rattle.std.specs.Coded.{Coded-set, coded_list, ×_prop, Unit-prop}
use Rattle.std.proofs.Props.{props}
use Rattle.rt_cidr.specs.declared.prefixes.Prefix.{Prefix}
use Rattle.rt_cidr.specs.contracts.prefixes.Prefix as prefix
use Rattle.rt_trie.specs.Map.{Pairs, IsBeforeAll, IsOrdered}
use Rattle.rt_trie.specs.Tree.{Tree, Vacant, Node}
use Rattle.rt_trie.specs.Lawful.{IsLawfulAt, IsLawfulTree, IsLawful}
use Rattle.rt_trie.specs.TrieContents.{TrieContents}

IsLawfulAt-prop : (q : Prefix) (valued : Bool) (left right : Tree) → IsProp (IsLawfulAt q valued left right)
IsLawfulAt-prop q valued left right = hlevel props

pub IsLawfulTree-prop : (t : Tree) → IsProp (IsLawfulTree t)
IsLawfulTree-prop Vacant = Unit-prop
IsLawfulTree-prop (Node q valued left right) =
    let here = IsLawfulAt-prop q valued left right in let l = IsLawfulTree-prop left in let r = IsLawfulTree-prop right in
    hlevel (here, l, r)

prefixes_set : (a b : List Prefix) → IsProp (a ≡ b)
prefixes_set = Coded-set (coded_list prefix.the_row.coded)

pub IsLawful-prop : {V : Type 0} (t : TrieContents V) → IsProp (IsLawful t)
IsLawful-prop t = hlevel (props, IsLawfulTree-prop, prefixes_set)

IsBeforeAll-prop : {V : Type 0} (p : Prefix) (m : Pairs V) → IsProp (IsBeforeAll p m)
IsBeforeAll-prop p [] = Unit-prop
IsBeforeAll-prop p ((q, v) ∷ rest) = ×_prop (hlevel props) (IsBeforeAll-prop p rest)

pub IsOrdered-prop : {V : Type 0} (m : Pairs V) → IsProp (IsOrdered m)
IsOrdered-prop [] = Unit-prop
IsOrdered-prop ((p, v) ∷ rest) = ×_prop (IsBeforeAll-prop p rest) (IsOrdered-prop rest)
