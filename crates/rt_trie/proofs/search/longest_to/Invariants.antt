use Rattle.std.proofs.Common.{◌≡◌}
use Rattle.rt_trie.specs.inside.Links.{or_else, last_cover, no_longer, pairs, count}
use Rattle.rt_trie.specs.Map.{pair_copied}
use Rattle.rt_trie.specs.inside.Lawful.{IsLawfulBelow}
use Rattle.rt_trie.proofs.search.longest_to.Given as goal

-- the link is lawful, and the answer is found below it, or else it is the best so far
abbrev pub invariant-loop-link : goal.invariant-loop-link
invariant-loop-link g l = record {
  lawful : IsLawfulBelow l.link;
  found : last_cover (no_longer l.most (pairs l.root)) l.address
      ≡ or_else (last_cover (no_longer l.most (pairs l.link)) l.address) (pair_copied l.best);
}

abbrev pub decreases-loop-link : goal.decreases-loop-link
decreases-loop-link g l = count l.link
