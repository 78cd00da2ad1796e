use Rattle.std.proofs.Common.{◌≡◌}
use Rattle.rt_rib.specs.Table.{purge}
use Rattle.rt_rib.proofs.table.Table.withdraw_marked.Given as goal

-- a purge leaves what it would have left before
abbrev pub invariant-each : goal.invariant-each
invariant-each g l = record {
  limit : l.self.limit ≡ l.fn.self.limit;
  rest : purge l.feed l.self.routes ≡ purge l.feed l.fn.self.routes;
}
