use Rattle.rt_cidr.proofs.OneAnswer.{decimal_again, address_again, prefix_again}
use Rattle.rt_cidr.proofs.laws.read_again.Goals as goal

pub returns-clause-decimal : goal.returns-clause-decimal
returns-clause-decimal c = decimal_again

pub returns-clause-address : goal.returns-clause-address
returns-clause-address c = address_again

pub returns-clause-prefix : goal.returns-clause-prefix
returns-clause-prefix c = prefix_again
