-- The nodes of a lawful link form a lawful tree: a prefix in a half is a child by bits.
use Rattle.std.proofs.Common.{◌≡◌, true, false, [], ◌∷◌, ◌++◌, Option, Some, None, map, refl, subst, sym}
use Rattle.std.proofs.lemmas.List.{map-append}
use Rattle.std.specs.Prelude.{IfSome, IfNone, IsSome, is_some, if◌then◌else◌}
use Rattle.rt_cidr.specs.declared.prefixes.Prefix.{Prefix}
use Rattle.rt_trie.specs.declared.nodes.Link.{Link, Empty, Leaf, Fork', Full'}
use Rattle.rt_trie.specs.Tree.{top, size, stored}
use Rattle.rt_trie.specs.inside.Tree.{tree_of}
use Rattle.rt_trie.specs.Lawful.{IsLawfulAt, IsLawfulTree, IsLawful}
use Rattle.rt_trie.specs.Laws.{ChildByNextBit, IsChildByBit}
use Rattle.rt_trie.specs.inside.Links.{own_pair, pairs, count}
use Rattle.rt_trie.specs.Halves.{IsChild}
use Rattle.rt_trie.specs.inside.Lawful.{root, IsFilled, AreHalves, IsLawfulTrie}
use Rattle.rt_trie.proofs.Blocks.{child_reading}
use Rattle.rt_trie.proofs.Descents.{held}
use Rattle.rt_trie.proofs.LinkOrder.{if_some_map}

pub child_by_bit : ChildByNextBit
child_by_bit parent c upper = (
  λ w. let r = (child_reading parent c upper).0 w in record { longer = r.0; contained = r.1; next_bit = r.2 },
  λ w. (child_reading parent c upper).1 (w.longer, w.contained, w.next_bit),
)

-- if a node has a value, its prefix is the one stored
own_stored : {V : Type 0} (q : Prefix) (v : Option V) → (if is_some v then q ∷ [] else []) ≡ map (λ (x : Prefix × V). x.0) (own_pair q v)
own_stored q None = refl
own_stored q (Some v) = refl

module _ {V A : Type 0} where
  -- the topmost node is the link's
  top_is : (link : Link V A) → root link ≡ top (tree_of link)
  top_is Empty = refl
  top_is (Leaf i j b) = refl
  top_is (Fork' i j p left right q) = refl
  top_is (Full' i j p left right q v) = refl

  -- a lawful node of links is a lawful node of the tree
  node_is : (q : Prefix) (v : Option V) (left right : Link V A) → AreHalves q left right → IfNone v (IsFilled left × IsFilled right)
      → IsLawfulAt q (is_some v) (tree_of left) (tree_of right)
  node_is q v left right h n = record {
    needed = needed v n;
    lower = subst (λ o. IfSome o (IsChildByBit q false)) (top_is left)
        (if_some_map (root left) (IsChild q false) (IsChildByBit q false) (λ c. (child_by_bit q c false).0) h.lower);
    upper = subst (λ o. IfSome o (IsChildByBit q true)) (top_is right)
        (if_some_map (root right) (IsChild q true) (IsChildByBit q true) (λ c. (child_by_bit q c true).0) h.upper);
  }
    where
      needed : (v : Option V) → IfNone v (IsFilled left × IsFilled right) → is_some v ≡ false → IsSome (top (tree_of left)) × IsSome (top (tree_of right))
      needed None n e = (subst IsSome (top_is left) n.0, subst IsSome (top_is right) n.1)
      needed (Some x) n e = cc

  tree_is_lawful : (link : Link V A) → IsLawfulTrie link → IsLawfulTree (tree_of link)
  tree_is_lawful Empty h = tt
  tree_is_lawful (Leaf i j b) h = (record { needed = λ e. cc; lower = tt; upper = tt }, tt, tt)
  tree_is_lawful (Fork' i j p left right q) h = (node_is q None left right h.0.0 h.1, tree_is_lawful left h.0.1, tree_is_lawful right h.0.2)
  tree_is_lawful (Full' i j p left right q v) h = (node_is q v left right h.0.0 h.1, tree_is_lawful left h.0.1, tree_is_lawful right h.0.2)

  -- the stored prefixes of the tree are the prefixes of the pairs
  stored_is : (link : Link V A) → stored (tree_of link) ≡ map (λ x. x.0) (pairs link)
  stored_is Empty = refl
  stored_is (Leaf i j b) = refl
  stored_is (Fork' i j p left right q) =
      rw (stored_is left, stored_is right) (sym (map-append (λ (x : Prefix × V). x.0) (pairs left) (pairs right)))
  stored_is (Full' i j p left right q v) =
      rw (
        map-append (λ (x : Prefix × V). x.0) (own_pair q v) (pairs left ++ pairs right),
        map-append (λ (x : Prefix × V). x.0) (pairs left) (pairs right),
        own_stored q v,
        stored_is left,
        stored_is right,
      ) refl

  size_is : (link : Link V A) → size (tree_of link) ≡ count link
  size_is Empty = refl
  size_is (Leaf i j b) = refl
  size_is (Fork' i j p left right q) = rw (size_is left, size_is right) refl
  size_is (Full' i j p left right q v) = rw (size_is left, size_is right) refl

  -- hence the contents of a lawful trie are lawful
  pub held_is_lawful : (link : Link V A) → IsLawfulTrie link → IsLawful (held link)
  held_is_lawful link h = record {
    tree = tree_is_lawful link h;
    stored = stored_is link;
    count = size_is link;
  }
