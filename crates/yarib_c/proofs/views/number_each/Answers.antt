use Rattle.std.proofs.Common.{arith}
use Rattle.yarib_c.proofs.views.number_each.Goals as goal

pub returns : goal.returns
returns c = record { size = c.loop-k.invariant.long; each = λ k below. c.loop-k.invariant.each k (omega (arith, below)) }
