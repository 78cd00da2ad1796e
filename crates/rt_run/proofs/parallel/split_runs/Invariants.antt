use Rattle.std.proofs.Common.{◌≤◌, map, vec_len, vec_capacity}
use Rattle.rt_run.specs.inside.Runs.{AreOfRuns}
use Rattle.rt_run.proofs.parallel.split_runs.Given as goal

-- the tables, the tallies and the parts of the runs so far, and capacity for the others
abbrev pub invariant-loop-run : goal.invariant-loop-run
invariant-loop-run l = record {
  split : AreOfRuns l.yielded (map (λ table. table.routes) l.tables.items) (map (λ tallies. tallies.items) l.told.items) l.parts.items;
  room : vec_len l.fn.runs ≤ vec_capacity l.tables;
  tally_room : vec_len l.fn.runs ≤ vec_capacity l.told;
  part_room : vec_len l.fn.runs ≤ vec_capacity l.parts;
}
