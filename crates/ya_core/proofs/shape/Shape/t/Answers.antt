use Rattle.std.proofs.Common.{arith}
use Rattle.ya_core.specs.declared.word.Word.TheVariants.{T}
use Rattle.ya_core.specs.ArbitrationTree.{number_of}
use Rattle.ya_core.proofs.Numbers.{number_within}
use Rattle.ya_core.proofs.shape.Shape.t.Goals as goal

pub returns-clause-value : goal.returns-clause-value
unfolding number_of
returns-clause-value c = cc (c.places.ensures.value, c.nodes_below.ensures.value)

pub returns-clause-within : goal.returns-clause-within
unfolding number_of
returns-clause-within c =
    rw (c.places.ensures.value, c.nodes_below.ensures.value)
    (number_within c.args.self.now (T c.args.level c.args.node) c.requires)

pub overflow_add-result-2 : goal.overflow_add-result-2
overflow_add-result-2 c = omega (arith, c.requires)
