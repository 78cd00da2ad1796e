use Rattle.std.proofs.Common.{◌≡◌}
use Rattle.ya_core.specs.inside.Ahead.{points_ahead}
use Rattle.ya_lock.specs.Lock.{WalksTo}
use Rattle.ya_lock.specs.inside.Lock.{IsAtFoot}
use Rattle.ya_lock.proofs.passage.Passage.acquire.Given as goal

abbrev pub invariant-loop-passage : goal.invariant-loop-passage
invariant-loop-passage g l = record {
  of : l.passage.of ≡ l.initial.passage.of;
  foot : IsAtFoot l.passage.walk;
  way : WalksTo l.initial.passage.walk l.passage.walk;
}

abbrev pub decreases-loop-passage : goal.decreases-loop-passage
decreases-loop-passage g l = points_ahead l.passage.walk
