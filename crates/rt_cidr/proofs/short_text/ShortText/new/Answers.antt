use Rattle.std.proofs.Common.{rules}
use Rattle.rt_cidr.proofs.short_text.ShortText.new.Goals as goal

pub returns : goal.returns
returns c = search rules
