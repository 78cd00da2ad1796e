use Rattle.std.proofs.Common.{◌≡◌, ℕ, ◌+◌, ◌≤◌}
use Rattle.ya_core.specs.declared.process.Process.TheVariants.{Leaving}
use Rattle.ya_core.specs.declared.process.ExitPoint.TheVariants.{X2}
use Rattle.ya_core.specs.WalkerModel.{most_remote}
use Rattle.ya_core.specs.inside.Ahead.{points_ahead}
use Rattle.ya_lock.specs.Lock.{WalksTo}
use Rattle.ya_lock.proofs.passage.Passage.release.Given as goal

abbrev pub invariant-loop-passage : goal.invariant-loop-passage
invariant-loop-passage g l = record {
  of : l.passage.of ≡ l.initial.passage.of;
  freed : (level : ℕ) × (l.passage.walk.process ≡ Leaving level X2);
  way : WalksTo l.initial.passage.walk l.passage.walk;
  least : l.initial.passage.walk.remote ≤ l.passage.walk.remote;
  count : l.passage.walk.remote + most_remote l.initial.passage.walk ≤ l.initial.passage.walk.remote + most_remote l.passage.walk;
}

abbrev pub decreases-loop-passage : goal.decreases-loop-passage
decreases-loop-passage g l = points_ahead l.passage.walk
