use Rattle.rt_tables.proofs.Unions.{one_union as law}
use Rattle.rt_tables.proofs.laws.one_union.Goals as goal

pub returns : goal.returns
returns c = law
