use Rattle.std.proofs.Common.{rules}
use Rattle.ya_core.proofs.shape.Shape.number.Goals as goal

pub returns-in-C-clause-value : goal.returns-in-C-clause-value
returns-in-C-clause-value c = search rules
