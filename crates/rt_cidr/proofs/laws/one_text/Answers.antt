use Rattle.rt_cidr.proofs.Texts.{decimal_one_text, address_one_text, pair_one_text}
use Rattle.rt_cidr.proofs.laws.one_text.Goals as goal

pub returns-clause-decimal : goal.returns-clause-decimal
returns-clause-decimal c = decimal_one_text

pub returns-clause-address : goal.returns-clause-address
returns-clause-address c = address_one_text

pub returns-clause-pair : goal.returns-clause-pair
returns-clause-pair c = pair_one_text
