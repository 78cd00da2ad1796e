use Rattle.std.proofs.Common.{◌+◌, ◌-◌, ◌*◌, ◌≤◌}
use Rattle.rt_fib.specs.inside.Entries.{AreFrom, GoesOn, IsFrom}
use Rattle.rt_fib.proofs.filling.Filling.entries.Given as goal

-- the entries so far, and the piece that goes on from there
abbrev pub invariant-entries : goal.invariant-entries
invariant-entries g l = record {
  onward : l.fn.span.first ≤ l.i;
  within : l.i ≤ l.fn.span.end;
  goes : GoesOn l.fn.self l.self l.fn.slabs l.slabs;
  made : AreFrom l.fn.span.first l.entries.items l.slabs (l.fn.self.epoch.number + 1) l.fn.self.table (l.i - l.fn.span.first);
  piece : IsFrom l.self l.slabs (l.i * 256);
}

abbrev pub decreases-entries : goal.decreases-entries
decreases-entries g l = l.fn.span.end - l.i
