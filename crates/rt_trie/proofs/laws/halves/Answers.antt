use Rattle.rt_trie.proofs.LawfulTrees.{child_by_bit}
use Rattle.rt_trie.proofs.laws.halves.Goals as goal

pub returns : goal.returns
returns c = child_by_bit
