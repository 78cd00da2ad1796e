use Rattle.rt_trie.proofs.MapLaws.{get-put, get-erase, ordered-put, ordered-erase}
use Rattle.rt_trie.proofs.laws.changes.Goals as goal

pub returns : goal.returns
returns g c = record { put = get-put; erase = get-erase; put_in_order = ordered-put; erase_in_order = ordered-erase }
