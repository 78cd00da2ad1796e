use Rattle.std.proofs.Common.{take}
use Rattle.std.specs.List.{All}
use Rattle.rt_rib.specs.Table.{IsTable}
use Rattle.rt_tables.proofs.tables.know_tables.Given as goal

abbrev pub invariant-loop-table : goal.invariant-loop-table
invariant-loop-table g l = All (λ t. IsTable t.routes) (take l.table-index l.tables)
