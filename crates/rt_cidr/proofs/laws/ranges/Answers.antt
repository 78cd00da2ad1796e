use Rattle.rt_cidr.proofs.Ranges.{covers_range, contains_range}
use Rattle.rt_cidr.proofs.laws.ranges.Goals as goal

pub returns-clause-covers : goal.returns-clause-covers
returns-clause-covers c = covers_range

pub returns-clause-contains : goal.returns-clause-contains
returns-clause-contains c = contains_range
