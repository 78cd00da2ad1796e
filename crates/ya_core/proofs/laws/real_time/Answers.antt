use Rattle.ya_core.specs.Worlds.{any_entry}
use Rattle.ya_core.specs.contracts.laws.real_time.{X-type}
use Rattle.ya_core.proofs.Content.{kept}
use Rattle.ya_core.proofs.RealTime.{keeps_order}
use Rattle.ya_core.proofs.laws.real_time.Goals as goal

pub returns : goal.returns
returns g c = λ levels earlier later early late some reached run.
    keeps_order {X = X-type g.row.X} levels any_entry some later early late
    (kept levels any_entry some earlier early reached) run
