use Rattle.std.proofs.Common.{◌≡◌, ◌++◌, length, map}
use Rattle.rt_rib.specs.Maps.{route_by, routes_of}
use Rattle.rt_rib.proofs.places.RoutesFromIterator.next.Given as goal

-- fetching the next pair doesn't change the remaining routes
abbrev pub invariant-loop-self : goal.invariant-loop-self
invariant-loop-self g l =
    map (route_by l.self-inside.prefix) l.self-inside.offers.now ++ routes_of l.self-inside.walk ≡ l.fn.self

abbrev pub decreases-loop-self : goal.decreases-loop-self
decreases-loop-self g l = length l.self-inside.walk
