use Rattle.rt_print.proofs.CountLists.{have_one_count_list}
use Rattle.rt_print.proofs.laws.one_count_list.Goals as goal

pub returns : goal.returns
returns c = have_one_count_list
