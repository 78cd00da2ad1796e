use Rattle.std.proofs.Common.{◌≡◌}
use Rattle.rt_trie.specs.Map.{first}
use Rattle.rt_trie.specs.inside.Links.{pairs, count}
use Rattle.rt_trie.specs.inside.Lawful.{IsLawfulTrie}
use Rattle.rt_trie.proofs.search.first.Given as goal

-- the link is lawful, and its first prefix is the root's
abbrev pub invariant-loop-prefix : goal.invariant-loop-prefix
invariant-loop-prefix g l = record {
  lawful : IsLawfulTrie l.link;
  same : first (pairs l.root) ≡ first (pairs l.link);
}

abbrev pub decreases-loop-prefix : goal.decreases-loop-prefix
decreases-loop-prefix g l = count l.link
