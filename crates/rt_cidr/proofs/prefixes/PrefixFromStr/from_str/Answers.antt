use Rattle.std.proofs.Common.{rules}
use Rattle.rt_cidr.proofs.prefixes.PrefixFromStr.from_str.Goals as goal

pub returns : goal.returns
returns c = search rules
