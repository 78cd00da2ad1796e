use Rattle.rt_print.proofs.Writing.{writes_after}
use Rattle.rt_print.proofs.counts.write_routes_and_total.Goals as goal

pub returns : goal.returns
returns g c = writes_after _ _ _ _ _ _ c.in_ok-write_routes.ensures.ok (rw c.syntax.ensures at c.put_total.ensures)
