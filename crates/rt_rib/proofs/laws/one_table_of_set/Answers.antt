use Rattle.rt_rib.proofs.Sets.{one_table_of_set as law}
use Rattle.rt_rib.proofs.laws.one_table_of_set.Goals as goal

pub returns : goal.returns
returns c = law
