use Rattle.std.proofs.Common.{rules}
use Rattle.rt_trie.proofs.search.is_no_longer.Goals as goal

pub returns-in-Leaf-clause-past : goal.returns-in-Leaf-clause-past
returns-in-Leaf-clause-past g c = search rules
