use Rattle.std.proofs.Common.{◌≡◌, ◌++◌}
use Rattle.rt_rib.specs.Maps.{routes_of}
use Rattle.rt_rib.proofs.map.append_walk.Given as goal

-- the routes already in the list and the remaining ones
abbrev pub invariant-loop-prefix : goal.invariant-loop-prefix
invariant-loop-prefix g l = l.routes.items ++ routes_of l.prefix-iterator ≡ l.fn.routes.items ++ routes_of l.fn.walk
