use Rattle.rt_trie.proofs.StoredPairs.{first-is-least, first-is-none, after-is-next, next-is-none}
use Rattle.rt_trie.proofs.laws.least.Goals as goal

pub returns : goal.returns
returns g c = record {
  first = first-is-least;
  none_first = first-is-none;
  after = after-is-next;
  none_after = next-is-none;
}
