use Rattle.std.proofs.Common.{arith}
use Rattle.std.proofs.Math.Pow.{pow_mono}
use Rattle.ya_core.proofs.Numbers.{few_places}
use Rattle.ya_core.proofs.shape.Shape.places.Goals as goal

pub returns-clause-least : goal.returns-clause-least
returns-clause-least c = omega (arith, few_places c.self.inside.levels c.self.invariant.1, pow_mono c.self.invariant.0)

pub returns-clause-most : goal.returns-clause-most
returns-clause-most c = omega (arith, few_places c.self.inside.levels c.self.invariant.1)
