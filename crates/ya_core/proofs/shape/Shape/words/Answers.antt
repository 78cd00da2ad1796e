use Rattle.ya_core.specs.ArbitrationTree.{count_of_words}
use Rattle.ya_core.proofs.shape.Shape.words.Goals as goal

pub returns : goal.returns
unfolding count_of_words
returns c = cc (c.places.ensures.value, c.places-2.ensures.value, c.self.view_is)
