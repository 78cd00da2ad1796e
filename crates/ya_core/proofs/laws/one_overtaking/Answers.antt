use Rattle.std.proofs.Common.{◌≤◌, arith}
use Rattle.ya_core.specs.Steps.{opening}
use Rattle.ya_core.proofs.Invariant.{opens}
use Rattle.ya_core.proofs.Overtaking.{overtaken_from}
use Rattle.ya_core.proofs.laws.one_overtaking.Goals as goal

pub returns : goal.returns
returns c = λ levels level place before during least most sees none. overtaken_from levels level place
    (let some : 1 ≤ levels = omega (arith, least, most) in some) least most before during opening
    (opens levels) sees none
