use Rattle.std.proofs.Common.{arith, drop_of_length-le}
use Rattle.rt_cidr.specs.declared.short_text.TheConstants.{SHORT_TEXT_BYTES}
use Rattle.rt_cidr.proofs.short_text.ShortText.clear.Goals as goal

pub returns : goal.returns
returns c = drop_of_length-le c.self.inside.buf {i = SHORT_TEXT_BYTES} (omega (arith, c.self.told))
