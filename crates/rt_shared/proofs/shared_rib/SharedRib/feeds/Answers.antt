use Rattle.std.proofs.Common.{◌≤◌, ◌^◌, arith}
use Rattle.std.proofs.Math.Pow.{pow_mono}
use Rattle.rt_rib.specs.declared.limits.TheConstants.{MAX_FEEDS}
use Rattle.ya_core.specs.declared.limits.TheConstants.{MAX_LEVELS}
use Rattle.rt_shared.proofs.shared_rib.SharedRib.feeds.Goals as goal

pub returns-clause-most : goal.returns-clause-most
returns-clause-most g c =
    let most : 2 ^ g.row.L ≤ MAX_FEEDS = pow_mono {j = MAX_LEVELS} c.requires.1 in
    omega arith
