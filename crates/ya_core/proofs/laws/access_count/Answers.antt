use Rattle.ya_core.proofs.PassageCounts.{walk_in_few, walk_out_few, along_way}
use Rattle.ya_core.proofs.laws.access_count.Goals as goal

pub returns-clause-way_in : goal.returns-clause-way_in
returns-clause-way_in c = walk_in_few

pub returns-clause-way_out : goal.returns-clause-way_out
returns-clause-way_out c = walk_out_few

pub returns-clause-between : goal.returns-clause-between
returns-clause-between c = λ start end values is goes. (along_way start end values is goes).2
