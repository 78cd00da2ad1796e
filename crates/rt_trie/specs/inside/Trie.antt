-- A trie as callers see it: a finite map, with its nodes.
use Rattle.std.specs.Prelude.{◌≡◌, length}
use Rattle.rt_trie.specs.declared.tries.Trie.TheInside.{Inside}
use Rattle.rt_trie.specs.inside.Links.{pairs, count}
use Rattle.rt_trie.specs.inside.Lawful.{IsLawfulTrie}
use Rattle.rt_trie.specs.TrieContents.{TrieContents}
use Rattle.rt_trie.specs.inside.Tree.{tree_of}

-- the pairs, the number of nodes, and the nodes
abbrev pub contents_of : {V A : Type 0} → Inside V A → TrieContents V
contents_of t = record { pairs = pairs t.root; nodes = count t.root; tree = tree_of t.root }

-- the trie is lawful, and its counts are right
pub record IsSoundTrie {V A : Type 0} (t : Inside V A) : Type 0 where
  pub lawful : IsLawfulTrie t.root
  pub len : t.len ≡ length (pairs t.root)
  pub nodes : t.nodes ≡ count t.root
