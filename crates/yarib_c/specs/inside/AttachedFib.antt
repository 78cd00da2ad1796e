-- The forwarding table of a table, if it has one.
use Rattle.std.specs.Prelude.{◌≡◌, List, Option, Some, None}
use Rattle.rt_rib.specs.declared.routes.Route.{Route}
use Rattle.rt_rib.specs.declared.commands.Cmd.{Cmd}
use Rattle.rt_rib.specs.Table.{IsTable}
use Rattle.rt_fib.specs.Laws.{KeepsOtherRoutes}

-- the forwarding table, if there is one, has these routes: it answers from them
abbrev pub FibHasRoutes : Option (List Route) → List Route → Type 0
FibHasRoutes None routes = Unit {0}
FibHasRoutes (Some fib) routes = fib ≡ routes

-- the forwarding table, if there is one, may follow the command to these routes
abbrev pub FibMayFollow : Cmd → Option (List Route) → List Route → Type 0
FibMayFollow cmd None routes = Unit {0}
FibMayFollow cmd (Some fib) routes = IsTable fib × KeepsOtherRoutes cmd fib routes
