use Rattle.std.proofs.Common.{◌≡◌, take}
use Rattle.rt_tables.proofs.Halves.{routes_of_each}
use Rattle.rt_tables.proofs.Improving.{answers_of}
use Rattle.rt_tables.proofs.lookups.best_of_each.Given as goal

-- the answers are those of the tables that were asked
abbrev pub invariant-loop-table : goal.invariant-loop-table
invariant-loop-table g l = l.answers ≡ answers_of l.addresses (routes_of_each (take l.table-index l.tables))
