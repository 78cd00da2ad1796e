use Rattle.std.proofs.Common.{rules}
use Rattle.ya_lock.proofs.pass.Pass.place.Goals as goal

pub returns : goal.returns
returns g c = search rules
