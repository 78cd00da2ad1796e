use Rattle.std.proofs.Common.{◌≡◌, ◌++◌, map, reverse, drop}
use Rattle.rt_rib.specs.Maps.{route_by}
use Rattle.rt_rib.proofs.lookups.append_backward.Given as goal

abbrev pub invariant-loop-k : goal.invariant-loop-k
invariant-loop-k g l = reverse l.routes.items ≡ map (route_by l.prefix) (drop l.k l.offers) ++ reverse l.fn.routes.items
