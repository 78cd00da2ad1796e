use Rattle.std.proofs.Common.{Option, None, ap, ◌∙◌}
use Rattle.rt_rib.specs.declared.routes.Route.{Route}
use Rattle.rt_fib.specs.Hops.{next_hop}
use Rattle.rt_fib.proofs.fib.Fib.look_up_hop.Goals as goal

pub returns : goal.returns
returns g c = rw (← c.self.view_is) (c.hop.ensures ∙ ap (λ (a : Option Route). next_hop a) (c.number_by-number.ensures.there None))
