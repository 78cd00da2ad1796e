-- The part of a table from a position on.
use Rattle.std.specs.Prelude.{not, List, filter}
use Rattle.rt_rib.specs.declared.routes.Route.{Route}
use Rattle.rt_rib.specs.Table.{precedes}

-- the routes from a route's position in dump order on: those that don't precede it, whether or not it is one of them
abbrev pub from_place : Route → List Route → List Route
from_place r table = filter (λ s. not (precedes s r)) table
