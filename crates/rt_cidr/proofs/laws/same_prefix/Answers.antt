use Rattle.rt_cidr.proofs.Ranges.{prefix_by_parts}
use Rattle.rt_cidr.proofs.laws.same_prefix.Goals as goal

pub returns : goal.returns
returns c = prefix_by_parts
