use Rattle.std.proofs.Common.{rules}
use Rattle.rt_rib.proofs.purge.PurgingRetainFilterOffers.is_done.Goals as goal

pub returns : goal.returns
returns g c = search rules
