use Rattle.rt_cidr.proofs.Nesting.{contains_is_covering_whole, covering_are_nested, covering_are_same}
use Rattle.rt_cidr.proofs.laws.nested.Goals as goal

pub returns-clause-contains : goal.returns-clause-contains
returns-clause-contains c = contains_is_covering_whole

pub returns-clause-nested : goal.returns-clause-nested
returns-clause-nested c = covering_are_nested

pub returns-clause-same : goal.returns-clause-same
returns-clause-same c = covering_are_same
