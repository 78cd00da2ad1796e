use Rattle.std.proofs.Common.{arith}
use Rattle.ya_core.specs.declared.word.Word.TheVariants.{C}
use Rattle.ya_core.specs.ArbitrationTree.{number_of}
use Rattle.ya_core.proofs.Numbers.{number_within}
use Rattle.ya_core.proofs.shape.Shape.c.Goals as goal

pub returns-clause-value : goal.returns-clause-value
unfolding number_of
returns-clause-value c = cc (c.nodes_below.ensures.value)

pub returns-clause-within : goal.returns-clause-within
unfolding number_of
returns-clause-within c =
    rw (c.nodes_below.ensures.value) (number_within c.args.self.now (C c.args.level c.args.node c.args.side) c.requires)

pub overflow_add-result : goal.overflow_add-result
overflow_add-result c = omega (arith, c.requires)

pub overflow_mul-result : goal.overflow_mul-result
overflow_mul-result c = omega (arith, c.requires)

pub overflow_add-result-2 : goal.overflow_add-result-2
overflow_add-result-2 c = omega (arith, c.requires)
