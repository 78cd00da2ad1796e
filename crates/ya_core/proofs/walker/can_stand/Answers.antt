use Rattle.std.proofs.Common.{rules}
use Rattle.ya_core.proofs.walker.can_stand.Goals as goal

pub returns-in-P : goal.returns-in-P
returns-in-P c = search rules
