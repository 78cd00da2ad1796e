use Rattle.std.proofs.Common.{rules}
use Rattle.ya_core.proofs.walker.Walker.new.Goals as goal

pub returns : goal.returns
returns c = search rules
