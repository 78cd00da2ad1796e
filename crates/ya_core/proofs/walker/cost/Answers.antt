use Rattle.std.proofs.Common.{rules}
use Rattle.ya_core.proofs.walker.cost.Goals as goal

pub returns-in-P-clause-value : goal.returns-in-P-clause-value
returns-in-P-clause-value c = search rules
