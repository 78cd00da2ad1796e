use Rattle.rt_diff.proofs.Existence.{have_differences}
use Rattle.rt_diff.proofs.Uniqueness.{have_one_list}
use Rattle.rt_diff.proofs.laws.one_list.Goals as goal

pub returns-clause-there : goal.returns-clause-there
returns-clause-there c = have_differences

pub returns-clause-one : goal.returns-clause-one
returns-clause-one c = have_one_list
