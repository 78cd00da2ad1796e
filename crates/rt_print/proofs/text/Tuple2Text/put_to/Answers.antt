use Rattle.rt_print.proofs.Writing.{writes_after}
use Rattle.rt_print.proofs.text.Tuple2Text.put_to.Goals as goal

pub returns : goal.returns
returns g c = writes_after _ _ _ _ _ _ c.in_ok-put_to.ensures.ok c.put_to-2.ensures
