use Rattle.std.proofs.Common.{rules}
use Rattle.rt_shared.proofs.shared_rib.SharedRib.routes.Goals as goal

pub returns-clause-ok : goal.returns-clause-ok
returns-clause-ok g c = search rules
