-- A finite map from prefixes, with the nodes that store it.
use Rattle.std.specs.Prelude.{ℕ}
use Rattle.rt_trie.specs.Map.{Pairs}
use Rattle.rt_trie.specs.Tree.{Tree}

-- the pairs in order, the number of nodes, and the nodes
pub record TrieContents (V : Type 0) : Type 0 where
  pub pairs : Pairs V
  pub nodes : ℕ
  pub tree : Tree
