use Rattle.std.proofs.Common.{rules}
use Rattle.rt_trie.proofs.tries.Trie.new.Goals as goal

pub invariant_of-result : goal.invariant_of-result
invariant_of-result g c = search rules
