use Rattle.rt_rib.proofs.BestRoutes.{best_routes_suffice as law}
use Rattle.rt_rib.proofs.laws.best_routes.Goals as goal

pub returns : goal.returns
returns c = law
