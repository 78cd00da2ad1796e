use Rattle.std.proofs.Common.{rules}
use Rattle.rt_cidr.proofs.ShortTexts.{prepending}
use Rattle.rt_cidr.specs.Text.{prefix_text}
use Rattle.rt_cidr.proofs.prefixes.Prefix.prepend_to.Goals as goal

pub returns : goal.returns
unfolding prefix_text
returns c = search (rules, prepending)
