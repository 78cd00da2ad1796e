use Rattle.std.proofs.Common.{◌-◌, ◌*◌, ◌≤◌, length, arith}
use Rattle.rt_rib.specs.Maps.{routes_of}
use Rattle.rt_rib.proofs.MapRoutes.{pairs_few}
use Rattle.rt_rib.proofs.table.Table.nodes.Goals as goal

pub returns-clause-bound : goal.returns-clause-bound
returns-clause-bound g c =
    let pairs = c.self.inside.map.pairs in
    let few = pairs_few pairs c.nodes.ensures.map in
    let bound : c.nodes.result ≤ 2 * length (routes_of pairs) - 1 = omega (arith, few, c.nodes.ensures.bound) in
    rw (← c.self.view_is) bound
