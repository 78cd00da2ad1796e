-- The next hop of an answer.
use Rattle.std.specs.Prelude.{Option, Some, None}
use Rattle.rt_rib.specs.declared.routes.Hop.{Hop}
use Rattle.rt_rib.specs.declared.routes.Route.{Route}

-- the next hop of the route that a look-up found, if it found one
abbrev pub next_hop : Option Route → Option Hop
next_hop None = None
next_hop (Some r) = Some r.hop
