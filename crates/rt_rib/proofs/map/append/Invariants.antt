use Rattle.std.proofs.Common.{◌≡◌, ◌++◌, map, take}
use Rattle.rt_rib.specs.Maps.{route_by}
use Rattle.rt_rib.proofs.map.append.Given as goal

abbrev pub invariant-loop-offer : goal.invariant-loop-offer
invariant-loop-offer g l = l.routes.items ≡ l.fn.routes.items ++ map (route_by l.prefix) (take l.offer-index l.offers)
