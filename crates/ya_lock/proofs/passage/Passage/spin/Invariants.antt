use Rattle.std.proofs.Common.{◌≡◌}
use Rattle.ya_lock.specs.Lock.{WalksTo}
use Rattle.ya_lock.proofs.passage.Passage.spin.Given as goal

abbrev pub invariant-loop : goal.invariant-loop
invariant-loop g l = record {
  of : l.passage.of ≡ l.initial.passage.of;
  still : l.passage.walk.process ≡ l.initial.passage.walk.process;
  way : WalksTo l.initial.passage.walk l.passage.walk;
}
