use Rattle.std.proofs.Common.{◌≡◌, length, take}
use Rattle.yarib_c.specs.Calls.{HaveOutcomes}
use Rattle.yarib_c.proofs.changes.apply_each.Given as goal

-- the first of the commands have their outcomes
abbrev pub invariant-loop-k : goal.invariant-loop-k
invariant-loop-k l = record {
  done : HaveOutcomes l.fn.held l.held (take l.k l.commands) (take l.k l.replies);
  long : length l.replies ≡ length l.commands;
}
