use Rattle.std.proofs.Common.{◌≡◌}
use Rattle.walkthrough.specs.Tally.{part}
use Rattle.walkthrough.proofs.lock.count.Given as goal

abbrev pub invariant-loop-passage : goal.invariant-loop-passage
invariant-loop-passage g l = record {
  lock : l.pass.lock ≡ l.lock;
  place : l.pass.place ≡ l.fn.pass.place;
  counted : part l.fn.pass.place l.pass.seen ≡ l._passage;
}
