use Rattle.std.proofs.Common.{◌++◌, ap, ◌∙◌}
use Rattle.rt_rib.specs.Maps.{routes_of}
use Rattle.rt_rib.proofs.map.routes.Goals as goal

pub returns : goal.returns
returns g c =
    c.in_ok-append_walk.ensures ∙ ap (λ l. l ++ routes_of c.args.walk) c.in_ok-routes.ensures.items
