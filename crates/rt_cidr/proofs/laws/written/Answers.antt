use Rattle.rt_cidr.proofs.Texts.{decimal_is_decimal, address_text_is_address}
use Rattle.rt_cidr.proofs.OneAnswer.{prefix_is_written}
use Rattle.rt_cidr.proofs.laws.written.Goals as goal

pub returns-clause-decimal : goal.returns-clause-decimal
returns-clause-decimal c = decimal_is_decimal

pub returns-clause-address : goal.returns-clause-address
returns-clause-address c = address_text_is_address

pub returns-clause-prefix : goal.returns-clause-prefix
returns-clause-prefix c = prefix_is_written
