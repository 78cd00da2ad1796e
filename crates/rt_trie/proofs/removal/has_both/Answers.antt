use Rattle.std.proofs.Common.{rules}
use Rattle.rt_trie.proofs.removal.has_both.Goals as goal

pub returns-then-not-is_empty-clause-both : goal.returns-then-not-is_empty-clause-both
returns-then-not-is_empty-clause-both g c = search rules

pub returns-else-not-is_empty-clause-both : goal.returns-else-not-is_empty-clause-both
returns-else-not-is_empty-clause-both g c = search rules
