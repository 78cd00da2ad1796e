use Rattle.std.proofs.Common.{rules}
use Rattle.walkthrough.proofs.replay.somebody_inside.Goals as goal

pub returns : goal.returns
returns c = record {
  steps = c.in_ok-steps.steps.items;
  taken = c.in_ok-steps.ensures.steps;
  answer = search rules;
}
