use Rattle.std.proofs.Common.{length, sym, subst, ap, arith}
use Rattle.rt_trie.specs.TrieContents.{TrieContents}
use Rattle.rt_trie.specs.inside.Links.{count}
use Rattle.rt_trie.specs.Nodes.{CountsNodes}
use Rattle.rt_trie.proofs.Counts.{nodes_few}
use Rattle.rt_trie.proofs.NodeCounts.{counts_nodes}
use Rattle.rt_trie.specs.Lawful.{IsLawful}
use Rattle.rt_trie.proofs.LawfulTrees.{held_is_lawful}
use Rattle.rt_trie.proofs.tries.Trie.nodes.Goals as goal

pub returns-clause-counted : goal.returns-clause-counted
returns-clause-counted g c =
    subst (λ n. CountsNodes c.args.self.now.pairs n) (sym c.self.invariant.nodes)
    (subst (λ (x : TrieContents _). CountsNodes x.pairs (count c.self.inside.root)) c.self.view_is (counts_nodes c.self.inside.root c.self.invariant.lawful))

pub returns-clause-bound : goal.returns-clause-bound
returns-clause-bound g c =
    omega (arith, c.self.invariant.nodes, nodes_few c.self.inside.root c.self.invariant.lawful, ap (λ (x : TrieContents _). length x.pairs) c.self.view_is)

pub returns-clause-lawful : goal.returns-clause-lawful
returns-clause-lawful g c = subst (λ (x : TrieContents _). IsLawful x) c.self.view_is (held_is_lawful c.self.inside.root c.self.invariant.lawful)
