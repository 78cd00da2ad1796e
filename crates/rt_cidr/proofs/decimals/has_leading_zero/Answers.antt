use Rattle.std.proofs.Common.{rules}
use Rattle.rt_cidr.proofs.decimals.has_leading_zero.Goals as goal

pub returns-in_default : goal.returns-in_default
returns-in_default c = search rules
