use Rattle.std.proofs.Common.{rules}
use Rattle.ya_core.proofs.shape.Shape.new.Goals as goal

pub invariant_of-result : goal.invariant_of-result
invariant_of-result c = search rules

pub returns-then-contains-clause-some : goal.returns-then-contains-clause-some
returns-then-contains-clause-some c = search rules
