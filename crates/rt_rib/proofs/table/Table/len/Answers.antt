use Rattle.std.proofs.Common.{arith, ◌∙◌}
use Rattle.rt_rib.specs.Maps.{routes_of}
use Rattle.rt_rib.proofs.Counts.{AreCounts-length}
use Rattle.rt_rib.proofs.table.Table.len.Goals as goal

pub total-requires : goal.total-requires
total-requires g c =
    let most = AreCounts-length c.self.inside.limit c.self.inside.counts (routes_of c.self.inside.map.pairs) c.self.invariant.counted in
    let all = c.self.invariant.counted.all in
    let limit = c.self.invariant.limited.1 in
    omega arith

pub returns : goal.returns
returns g c = rw (← c.self.view_is) (c.total.ensures ∙ c.self.invariant.counted.all)
