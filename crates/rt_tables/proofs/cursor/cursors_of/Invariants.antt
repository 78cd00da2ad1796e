use Rattle.std.proofs.Common.{◌≡◌, ◌≤◌, take, length, vec_len, vec_capacity}
use Rattle.rt_tables.proofs.Halves.{routes_of_each}
use Rattle.rt_tables.proofs.cursor.cursors_of.Given as goal

-- the cursors of the tables before this one, and capacity for the others
abbrev pub invariant-loop-table : goal.invariant-loop-table
invariant-loop-table g l = record {
  each : l.cursors.items ≡ routes_of_each (take l.table-index l.tables);
  counted : vec_len l.cursors ≡ l.table-index;
  room : length l.tables ≤ vec_capacity l.cursors;
}
