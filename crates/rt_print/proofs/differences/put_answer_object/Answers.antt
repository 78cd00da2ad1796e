use Rattle.rt_print.specs.DifferenceText.{answered_as}
use Rattle.rt_print.proofs.differences.put_answer_object.Goals as goal

pub returns-in-Discard : goal.returns-in-Discard
unfolding answered_as
returns-in-Discard g c by = rw (c.in-Hop.is, c.in-Discard.is) c.put_to-in-Discard.ensures
