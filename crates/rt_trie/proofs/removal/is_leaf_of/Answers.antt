use Rattle.std.proofs.Common.{rules}
use Rattle.rt_trie.proofs.removal.is_leaf_of.Goals as goal

pub returns-clause-other : goal.returns-clause-other
returns-clause-other g c = search rules
