use Rattle.std.proofs.Common.{◌≡◌, ℕ, ◌-◌, ◌<◌, ◌≤◌, length}
use Rattle.rt_trie.specs.Map.{IsLongest, address_at, answer_at}
use Rattle.rt_trie.specs.inside.Links.{pairs}
use Rattle.rt_trie.proofs.search.longest_many.Given as goal

-- the answers before `start` are right
abbrev pub invariant-loop-start : goal.invariant-loop-start
invariant-loop-start g l = record {
  each : (k : ℕ) → k < l.start → IsLongest (pairs l.root) (address_at l.addresses k) (answer_at l.answers k);
  within : l.start ≤ length l.addresses;
  long : length l.answers ≡ length l.addresses;
}

abbrev pub decreases-loop-start : goal.decreases-loop-start
decreases-loop-start g l = length l.addresses - l.start
