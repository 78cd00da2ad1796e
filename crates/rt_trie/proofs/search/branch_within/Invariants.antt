use Rattle.std.proofs.Common.{◌≡◌}
use Rattle.rt_trie.specs.Map.{within}
use Rattle.rt_trie.specs.inside.Links.{pairs, count}
use Rattle.rt_trie.specs.inside.Lawful.{IsLawfulTrie}
use Rattle.rt_trie.proofs.search.branch_within.Given as goal

-- the link is lawful, and has all pairs in the prefix
abbrev pub invariant-loop-prefix : goal.invariant-loop-prefix
invariant-loop-prefix g l = record {
  lawful : IsLawfulTrie l.link;
  same : within (pairs l.root) l.p ≡ within (pairs l.link) l.p;
}

abbrev pub decreases-loop-prefix : goal.decreases-loop-prefix
decreases-loop-prefix g l = count l.link
