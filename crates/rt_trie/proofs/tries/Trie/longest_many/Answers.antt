use Rattle.std.proofs.Common.{subst}
use Rattle.rt_trie.specs.TrieContents.{TrieContents}
use Rattle.rt_trie.specs.Map.{AreLongest}
use Rattle.rt_trie.proofs.tries.Trie.longest_many.Goals as goal

pub returns : goal.returns
returns g c =
    subst (λ (x : TrieContents _). AreLongest x.pairs c.args.addresses.now c.longest_many.new.answers) c.self.view_is c.longest_many.ensures
