use Rattle.std.proofs.Common.{rules}
use Rattle.ya_core.proofs.walker.Walker.begin_exit.Goals as goal

pub returns : goal.returns
returns c = search rules
