use Rattle.std.proofs.Common.{◌≡◌, ◌≤◌, map, None, vec_len, vec_capacity}
use Rattle.rt_run.proofs.runs.open_gates.Given as goal

-- a feed for each pass so far, and capacity for the others
abbrev pub invariant-loop-pass : goal.invariant-loop-pass
invariant-loop-pass g l = record {
  opened : l.feeds.items ≡ map (λ p. record { gate = p; report = None }) l.yielded;
  room : vec_len l.fn.passes ≤ vec_capacity l.feeds;
}
