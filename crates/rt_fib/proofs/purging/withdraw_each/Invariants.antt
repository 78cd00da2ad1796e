use Rattle.std.proofs.Common.{◌≡◌}
use Rattle.rt_rib.specs.Table.{purge}
use Rattle.rt_fib.proofs.purging.withdraw_each.Given as goal

-- it follows, and a purge leaves what it would have left before
abbrev pub invariant-each : goal.invariant-each
invariant-each g l = record {
  followed : l.fib ≡ l.table.routes;
  limit : l.table.limit ≡ l.fn.table.limit;
  rest : purge l.feed l.table.routes ≡ purge l.feed l.fn.table.routes;
}
