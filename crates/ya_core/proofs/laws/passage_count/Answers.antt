use Rattle.ya_core.proofs.PassageCounts.{in_few, out_few}
use Rattle.ya_core.proofs.laws.passage_count.Goals as goal

pub returns-clause-way_in : goal.returns-clause-way_in
returns-clause-way_in c = in_few

pub returns-clause-way_out : goal.returns-clause-way_out
returns-clause-way_out c = out_few
