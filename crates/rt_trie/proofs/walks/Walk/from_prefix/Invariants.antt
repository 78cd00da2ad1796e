use Rattle.std.proofs.Common.{◌≡◌, ◌++◌}
use Rattle.rt_trie.specs.FromPrefix.{from_prefix}
use Rattle.rt_trie.specs.inside.Links.{pairs, count}
use Rattle.rt_trie.specs.inside.WalkStack.{stack_pairs, IsFrom, IsWalkStack}
use Rattle.rt_trie.proofs.walks.Walk.from_prefix.Given as goal

-- the pairs from p on are those below the link, followed by those on the stack
abbrev pub invariant-loop-stack : goal.invariant-loop-stack
invariant-loop-stack g l = record {
  stack : IsWalkStack l.stack l.len;
  link : IsFrom l.len l.link;
  same : from_prefix (pairs l.root) l.p ≡ from_prefix (pairs l.link) l.p ++ stack_pairs l.stack l.len;
}

abbrev pub decreases-loop-stack : goal.decreases-loop-stack
decreases-loop-stack g l = count l.link
