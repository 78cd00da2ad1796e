use Rattle.rt_trie.proofs.StoredPairs.{pairs-found, one-list}
use Rattle.rt_trie.proofs.laws.one_list.Goals as goal

pub returns : goal.returns
returns g c = record { found = pairs-found; one = one-list }
