use Rattle.std.proofs.Common.{◌≡◌, ◌≤◌, map, Some, vec_capacity}
use Rattle.rt_run.proofs.runs.close_gates.Given as goal

-- the passes and the reports of the feeds so far, and capacity for the others
abbrev pub invariant-loop-feed : goal.invariant-loop-feed
invariant-loop-feed g l = record {
  passes : l.passes.items ≡ map (λ feed. feed.gate) l.yielded;
  reports : map Some l.reports.items ≡ map (λ feed. feed.report) l.yielded;
  room : vec_capacity l.fn.passes ≤ vec_capacity l.passes;
  report_room : vec_capacity l.fn.reports ≤ vec_capacity l.reports;
}
