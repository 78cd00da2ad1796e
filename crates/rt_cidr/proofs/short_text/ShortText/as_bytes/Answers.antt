use Rattle.std.proofs.Common.{arith}
use Rattle.std.proofs.lemmas.Grind.{common_steps}
use Rattle.rt_cidr.proofs.short_text.ShortText.as_bytes.Goals as goal

pub returns : goal.returns
returns c = grind (arith, common_steps)
