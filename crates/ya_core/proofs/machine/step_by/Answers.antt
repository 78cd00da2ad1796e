use Rattle.std.proofs.Common.{rules}
use Rattle.ya_core.proofs.machine.step_by.Goals as goal

pub returns : goal.returns
returns c = search rules
