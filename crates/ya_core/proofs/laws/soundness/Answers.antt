use Rattle.ya_core.proofs.Invariant.{keeps}
use Rattle.ya_core.proofs.laws.soundness.Goals as goal

pub returns-clause-kept : goal.returns-clause-kept
returns-clause-kept c = keeps
