use Rattle.rt_tables.proofs.Unions.{union_has_their_routes as law}
use Rattle.rt_tables.proofs.laws.union_has_their_routes.Goals as goal

pub returns : goal.returns
returns c = law
