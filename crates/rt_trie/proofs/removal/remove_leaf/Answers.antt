use Rattle.std.proofs.Common.{rules}
use Rattle.rt_trie.proofs.removal.remove_leaf.Goals as goal

pub returns-clause-value : goal.returns-clause-value
returns-clause-value g c = search rules
