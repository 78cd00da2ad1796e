use Rattle.std.proofs.Common.{rules}
use Rattle.rt_shared.proofs.lent.Lent.serve.Goals as goal

pub returns-in-Ok-clause-entry : goal.returns-in-Ok-clause-entry
returns-in-Ok-clause-entry c = search rules
