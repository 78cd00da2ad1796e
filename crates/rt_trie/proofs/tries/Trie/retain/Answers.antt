use Rattle.std.proofs.Common.{arith}
use Rattle.rt_trie.proofs.LinkOrder.{pairs_ordered}
use Rattle.rt_trie.proofs.tries.Trie.retain.Goals as goal

pub invariant_of-self : goal.invariant_of-self
invariant_of-self g c =
    let i = c.retain.ensures in
    record {
      lawful = i.retained.lawful;
      len = omega (arith, c.self.invariant.len, i.len);
      nodes = omega (arith, c.self.invariant.nodes, i.nodes);
    }

pub returns-clause-ordered : goal.returns-clause-ordered
returns-clause-ordered g c = pairs_ordered c.retain.new.link c.retain.ensures.retained.lawful.0
