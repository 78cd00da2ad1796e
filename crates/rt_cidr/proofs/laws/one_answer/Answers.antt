use Rattle.rt_cidr.proofs.OneAnswer.{address_one_answer, prefix_one_answer, pair_one_answer}
use Rattle.rt_cidr.proofs.laws.one_answer.Goals as goal

pub returns-clause-address : goal.returns-clause-address
returns-clause-address c = address_one_answer

pub returns-clause-prefix : goal.returns-clause-prefix
returns-clause-prefix c = prefix_one_answer

pub returns-clause-pair : goal.returns-clause-pair
returns-clause-pair c = pair_one_answer
