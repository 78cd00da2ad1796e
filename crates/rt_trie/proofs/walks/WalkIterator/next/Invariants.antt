use Rattle.std.proofs.Common.{◌≡◌}
use Rattle.rt_trie.specs.inside.WalkStack.{stack_pairs, IsWalkStack}
use Rattle.rt_trie.proofs.WalkStacks.{weight_of}
use Rattle.rt_trie.proofs.walks.WalkIterator.next.Given as goal

-- the stack is lawful, and has the remaining pairs
abbrev pub invariant-loop-self : goal.invariant-loop-self
invariant-loop-self g l = record {
  stack : IsWalkStack l.self-inside.stack l.self-inside.len;
  same : stack_pairs l.self-inside.stack l.self-inside.len ≡ l.fn.self;
}

abbrev pub decreases-loop-self : goal.decreases-loop-self
decreases-loop-self g l = weight_of l.self-inside.stack l.self-inside.len
