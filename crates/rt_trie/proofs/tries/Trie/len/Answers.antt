use Rattle.std.proofs.Common.{length, subst, ap, ◌∙◌}
use Rattle.rt_trie.specs.TrieContents.{TrieContents}
use Rattle.rt_trie.specs.Map.{IsOrdered}
use Rattle.rt_trie.proofs.LinkOrder.{pairs_ordered}
use Rattle.rt_trie.proofs.tries.Trie.len.Goals as goal

pub returns-clause-len : goal.returns-clause-len
returns-clause-len g c = c.self.invariant.len ∙ ap (λ (x : TrieContents _). length x.pairs) c.self.view_is

pub returns-clause-ordered : goal.returns-clause-ordered
returns-clause-ordered g c =
    subst (λ (x : TrieContents _). IsOrdered x.pairs) c.self.view_is (pairs_ordered c.self.inside.root c.self.invariant.lawful.0)
