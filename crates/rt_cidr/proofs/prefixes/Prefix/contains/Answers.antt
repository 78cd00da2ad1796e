use Rattle.std.proofs.Common.{rules}
use Rattle.rt_cidr.proofs.prefixes.Prefix.contains.Goals as goal

pub returns-else-other-self : goal.returns-else-other-self
returns-else-other-self c = search rules
