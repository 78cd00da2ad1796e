use Rattle.std.proofs.Common.{rules}
use Rattle.rt_trie.proofs.insertion.leaf_of.Goals as goal

pub returns-in-Err-clause-refused : goal.returns-in-Err-clause-refused
returns-in-Err-clause-refused g c = search rules
