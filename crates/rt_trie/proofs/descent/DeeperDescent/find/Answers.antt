use Rattle.std.proofs.Common.{rules}
use Rattle.rt_trie.proofs.descent.DeeperDescent.find.Goals as goal

pub returns-then-is_key_of-2 : goal.returns-then-is_key_of-2
returns-then-is_key_of-2 g c = search rules
