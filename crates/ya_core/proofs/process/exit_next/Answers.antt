use Rattle.std.proofs.Common.{rules}
use Rattle.ya_core.proofs.process.exit_next.Goals as goal

pub returns-in-X2 : goal.returns-in-X2
returns-in-X2 c = search rules
