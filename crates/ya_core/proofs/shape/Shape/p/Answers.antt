use Rattle.ya_core.specs.declared.word.Word.TheVariants.{P}
use Rattle.ya_core.specs.ArbitrationTree.{number_of}
use Rattle.ya_core.proofs.Numbers.{number_within}
use Rattle.ya_core.proofs.shape.Shape.p.Goals as goal

pub returns-clause-value : goal.returns-clause-value
unfolding number_of
returns-clause-value c = cc (c.places.ensures.value, c.places-2.ensures.value)

pub returns-clause-within : goal.returns-clause-within
unfolding number_of
returns-clause-within c =
    rw (c.places.ensures.value, c.places-2.ensures.value)
    (number_within c.args.self.now (P c.args.level c.args.place) c.requires)
