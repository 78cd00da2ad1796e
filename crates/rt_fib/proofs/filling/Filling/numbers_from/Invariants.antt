use Rattle.std.proofs.Common.{◌≡◌, ◌+◌, length}
use Rattle.rt_fib.specs.inside.Entries.{AreNumbers, GoesOn, IsFrom}
use Rattle.rt_fib.proofs.filling.Filling.numbers_from.Given as goal

-- the numbers so far, and the piece that goes on from there
abbrev pub invariant-numbers : goal.invariant-numbers
invariant-numbers g l = record {
  goes : GoesOn l.fn.self l.self l.fn.slabs l.slabs;
  full : length l.numbers ≡ 256;
  made : AreNumbers l.fn.self.table l.numbers l.slabs (l.fn.self.epoch.number + 1) l.first l.k;
  piece : IsFrom l.self l.slabs (l.first + l.k);
}
