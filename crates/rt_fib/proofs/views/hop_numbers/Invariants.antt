use Rattle.std.proofs.Common.{◌≤◌, length}
use Rattle.rt_fib.specs.inside.Shown.{AreHopsOf}
use Rattle.rt_fib.proofs.views.hop_numbers.Given as goal

-- the numbers so far
abbrev pub invariant-answers : goal.invariant-answers
invariant-answers g l = record {
  some : 2 ≤ length l.routers.items;
  made : AreHopsOf l.routers.items l.numbers.items l.answers l.n;
}
