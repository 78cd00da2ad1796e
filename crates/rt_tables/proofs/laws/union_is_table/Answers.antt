use Rattle.rt_tables.proofs.Unions.{union_is_table as law}
use Rattle.rt_tables.proofs.laws.union_is_table.Goals as goal

pub returns : goal.returns
returns c = law
