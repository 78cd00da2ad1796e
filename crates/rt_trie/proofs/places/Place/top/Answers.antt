use Rattle.std.proofs.Common.{refl}
use Rattle.rt_trie.proofs.places.Place.top.Goals as goal

pub returns-clause-last : goal.returns-clause-last
returns-clause-last g c = refl
