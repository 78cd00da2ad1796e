use Rattle.std.proofs.Common.{◌≡◌, ℕ, ◌<◌, length, None}
use Rattle.rt_tables.specs.inside.Answers.{route_at}
use Rattle.rt_tables.proofs.lookups.forget_each.Given as goal

abbrev pub invariant-loop-k : goal.invariant-loop-k
invariant-loop-k l = record { forgotten : (j : ℕ) → j < l.k → route_at l.answers j ≡ None; long : length l.answers ≡ length l.fn.answers }
