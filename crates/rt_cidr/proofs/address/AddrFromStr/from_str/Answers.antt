use Rattle.std.proofs.Common.{rules}
use Rattle.rt_cidr.proofs.address.AddrFromStr.from_str.Goals as goal

pub returns : goal.returns
returns c = search rules
