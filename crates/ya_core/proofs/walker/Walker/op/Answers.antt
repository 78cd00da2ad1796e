use Rattle.std.proofs.Common.{rules}
use Rattle.ya_core.proofs.walker.Walker.op.Goals as goal

pub returns-in-Some-Store-clause-value : goal.returns-in-Some-Store-clause-value
returns-in-Some-Store-clause-value c = search rules
