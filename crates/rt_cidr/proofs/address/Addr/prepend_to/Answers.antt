use Rattle.std.proofs.Common.{rules}
use Rattle.rt_cidr.proofs.ShortTexts.{prepending}
use Rattle.rt_cidr.specs.Text.{address_text}
use Rattle.rt_cidr.proofs.address.Addr.prepend_to.Goals as goal

pub returns : goal.returns
unfolding address_text
returns c = search (rules, prepending)
