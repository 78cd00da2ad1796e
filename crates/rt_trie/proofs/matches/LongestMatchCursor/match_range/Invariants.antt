use Rattle.std.proofs.Common.{◌≡◌, ◌≤◌}
use Rattle.rt_trie.specs.inside.Links.{pairs}
use Rattle.rt_trie.specs.inside.Places.{IsPlace, AreMatches, links_below}
use Rattle.rt_trie.proofs.matches.LongestMatchCursor.match_range.Given as goal

-- the kept places and the current one belong to the same trie, and the current one reaches the address
abbrev pub invariant-loop-place : goal.invariant-loop-place
invariant-loop-place g l = record {
  answers : AreMatches l.self-inside.root.now l.a l.self-inside.way;
  from : l.self-inside.from ≡ l.a;
  pairs : pairs l.self-inside.root.now ≡ l.fn.self;
  place : IsPlace l.fn.self l.a l.place;
  onward : l.a.0 ≤ l.place.last;
}

abbrev pub decreases-loop-place : goal.decreases-loop-place
decreases-loop-place g l = links_below l.place.below
