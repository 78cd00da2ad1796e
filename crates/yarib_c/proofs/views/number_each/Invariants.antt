use Rattle.std.proofs.Common.{◌≡◌, ℕ, ◌<◌, length}
use Rattle.yarib_c.specs.ShownViews.{AnswersByNumber}
use Rattle.yarib_c.specs.inside.Places.{number_at}
use Rattle.yarib_c.proofs.views.number_each.Given as goal

-- the first of these addresses are answered
abbrev pub invariant-loop-k : goal.invariant-loop-k
invariant-loop-k l = record {
  long : length l.numbers ≡ length l.addresses;
  each : (j : ℕ) → j < l.k
      → AnswersByNumber l.view.entries.now l.view.blocks.now l.view.routers.now (number_at l.addresses j) (number_at l.numbers j);
}
