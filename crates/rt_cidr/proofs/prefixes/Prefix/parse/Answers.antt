use Rattle.std.proofs.Common.{rules}
use Rattle.rt_cidr.proofs.prefixes.Prefix.parse.Goals as goal

pub returns : goal.returns
returns c = search rules

pub returns-then-len-from : goal.returns-then-len-from
returns-then-len-from c = search rules
