use Rattle.std.proofs.Common.{◌≡◌}
use Rattle.rt_fib.specs.inside.Changes.{AreUntil, HasNumber, IsLast}
use Rattle.rt_fib.proofs.dir24_8.Dir24_8.change_entries.Given as goal

-- the entries so far
abbrev pub invariant-entries : goal.invariant-entries
invariant-entries g l = record {
  marked : l.self.marked ≡ l.fn.self.marked;
  number : HasNumber l.self.slabs l.self.epoch.number l.change;
  entries : AreUntil l.self.tbl24.items l.self.slabs l.self.epoch.number l.self.marked l.fn.self.table.value.routes l.table.routes l.i;
  last : IsLast l.self.slabs l.self.epoch.number l.change l.last;
}
