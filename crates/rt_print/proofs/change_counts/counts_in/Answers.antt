use Rattle.rt_print.proofs.ChangeMaps.{counts_rise}
use Rattle.rt_print.proofs.change_counts.counts_in.Goals as goal

pub returns-clause-rising : goal.returns-clause-rising
returns-clause-rising c = λ keyed. counts_rise _ keyed c.values.ensures.ordered
