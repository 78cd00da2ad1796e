use Rattle.std.proofs.Common.{rules, arith}
use Rattle.std.proofs.lemmas.Grind.{common_steps}
use Rattle.rt_cidr.proofs.short_text.ShortText.prepend_decimal.Goals as goal

pub returns : goal.returns
returns c = search rules

pub write_digits-self-inside-requires : goal.write_digits-self-inside-requires
write_digits-self-inside-requires c = grind (arith, common_steps)
