use Rattle.std.proofs.Common.{rules}
use Rattle.ya_lock.proofs.guard.Guard.place.Goals as goal

pub returns : goal.returns
returns g c = search rules
