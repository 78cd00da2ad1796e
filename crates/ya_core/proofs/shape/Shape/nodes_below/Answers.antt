use Rattle.std.proofs.Common.{◌≡◌, ◌+◌, ◌-◌, ◌^◌, ap, arith}
use Rattle.ya_core.proofs.Numbers.{few_places, room, double}
use Rattle.ya_core.proofs.shape.Shape.nodes_below.Goals as goal

pub overflow_sub-result-2 : goal.overflow_sub-result-2
overflow_sub-result-2 c =
    let levels = c.args.self.now in
    let same : 2 ^ (c.self.inside.levels - c.args.level + 1) ≡ 2 ^ (levels - c.args.level + 1) =
    ap (λ n. 2 ^ (n - c.args.level + 1)) c.self.view_is in
    omega (arith, few_places levels (omega arith), room levels c.args.level c.requires.least c.requires.most)

pub returns-clause-room : goal.returns-clause-room
returns-clause-room c =
    let levels = c.args.self.now in
    let same : 2 ^ (c.self.inside.levels - c.args.level + 1) ≡ 2 ^ (levels - c.args.level + 1) =
    ap (λ n. 2 ^ (n - c.args.level + 1)) c.self.view_is in
    omega (
      arith,
      few_places levels (omega arith),
      room levels c.args.level c.requires.least c.requires.most,
      double (levels - c.args.level),
    )
