use Rattle.std.proofs.Common.{arith}
use Rattle.rt_print.proofs.LineParts.{fits}
use Rattle.rt_cidr.proofs.Promised.{prepending}
use Rattle.rt_print.proofs.routes.put_route.Goals.{in-None, in-Some}
use Rattle.rt_print.proofs.routes.put_route.Goals as goal

pub prepend_front-requires-2 : goal.prepend_front-requires-2
prepend_front-requires-2 g c = elim c.match-label_in.branch [
  | in-None w ↦ grind (arith, fits, prepending)
  | in-Some w ↦ grind (arith, fits, prepending)
]
