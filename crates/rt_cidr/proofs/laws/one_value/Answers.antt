use Rattle.rt_cidr.proofs.Fronts.{address_fits}
use Rattle.rt_cidr.proofs.Texts.{address_one_number, pair_one_value}
use Rattle.rt_cidr.proofs.laws.one_value.Goals as goal

pub returns-clause-address : goal.returns-clause-address
returns-clause-address c = address_one_number

pub returns-clause-pair : goal.returns-clause-pair
returns-clause-pair c = pair_one_value

pub returns-clause-fits : goal.returns-clause-fits
returns-clause-fits c = address_fits
