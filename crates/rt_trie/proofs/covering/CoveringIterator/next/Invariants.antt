use Rattle.std.proofs.Common.{◌≡◌}
use Rattle.rt_trie.specs.inside.Links.{covering_below, IsLawfulOn}
use Rattle.rt_trie.proofs.CoveringPairs.{nodes_below}
use Rattle.rt_trie.proofs.covering.CoveringIterator.next.Given as goal

-- the link is lawful, and the remaining pairs are those below it that cover the address
abbrev pub invariant-loop-self : goal.invariant-loop-self
invariant-loop-self g l = record {
  lawful : IsLawfulOn l.self-inside.below;
  same : covering_below l.self-inside.below l.self-inside.most l.self-inside.address ≡ l.fn.self;
}

abbrev pub decreases-loop-self : goal.decreases-loop-self
decreases-loop-self g l = nodes_below l.self-inside.below
