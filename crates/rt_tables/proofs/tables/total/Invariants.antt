use Rattle.std.proofs.Common.{◌≡◌, ◌*◌, ◌≤◌, length, take, sum_by}
use Rattle.rt_tables.proofs.tables.total.Given as goal

-- the routes of the tables before this one: each has at most as many as a number of 32 bits can count
abbrev pub invariant-loop-table : goal.invariant-loop-table
invariant-loop-table g l = record {
  counted : l.routes ≡ sum_by (λ t. length t.routes) (take l.table-index l.tables);
  few : l.routes ≤ l.table-index * 4294967296;
}
