use Rattle.std.proofs.Common.{rules}
use Rattle.rt_cidr.proofs.ShortTexts.{lengths}
use Rattle.rt_cidr.proofs.prefixes.Prefix.write_to.Goals as goal

pub returns : goal.returns
returns g c = search (rules, lengths)
