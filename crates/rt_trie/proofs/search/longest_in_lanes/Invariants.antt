use Rattle.std.proofs.Common.{◌≡◌, ℕ, ◌+◌, ◌<◌, ◌≤◌, None, get_or, length}
use Rattle.rt_trie.specs.Map.{answer_at}
use Rattle.rt_trie.proofs.Lanes.{AreOnTheWay, work_of}
use Rattle.rt_trie.proofs.search.longest_in_lanes.Given as goal

-- the first k lanes are listed, and have no answer yet
abbrev pub invariant-loop-k : goal.invariant-loop-k
invariant-loop-k g l = record {
  none : (j : ℕ) → j < l.k → answer_at l.answers (l.start + j) ≡ None;
  listed : (j : ℕ) → j < l.k → get_or l.order j 0 ≡ j;
  rest : (k : ℕ) → k < l.start → answer_at l.answers k ≡ answer_at l.fn.answers k;
  order_long : l.size ≤ length l.order;
  long : length l.answers ≡ length l.addresses;
}

-- each lane still proceeds or has its final answer; if any proceeds, k is the index of one that does
abbrev pub invariant-loop-going : goal.invariant-loop-going
invariant-loop-going g l = record {
  way : AreOnTheWay l.root l.addresses l.start l.size l.lanes l.order l.going l.answers;
  turn : 0 < l.going → l.k < l.going;
  rest : (k : ℕ) → k < l.start → answer_at l.answers k ≡ answer_at l.fn.answers k;
  long : length l.answers ≡ length l.addresses;
}

abbrev pub decreases-loop-going : goal.decreases-loop-going
decreases-loop-going g l = work_of l.lanes l.size + l.going
