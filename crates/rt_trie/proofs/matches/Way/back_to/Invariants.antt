use Rattle.std.proofs.Common.{◌≡◌, ◌≤◌}
use Rattle.rt_trie.proofs.matches.Way.back_to.Given as goal

-- the places stay, and no more of them are kept than before
abbrev pub invariant-loop-self : goal.invariant-loop-self
invariant-loop-self g l = record { few : l.self.len ≤ l.initial.self.len; places : l.self.places ≡ l.initial.self.places }

abbrev pub decreases-loop-self : goal.decreases-loop-self
decreases-loop-self g l = l.self.len
