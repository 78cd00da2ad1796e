use Rattle.std.proofs.Common.{rules}
use Rattle.rt_rib.proofs.limits.limit_ok.Goals as goal

pub returns : goal.returns
returns c = search rules
