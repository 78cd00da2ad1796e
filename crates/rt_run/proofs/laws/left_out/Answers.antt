use Rattle.rt_run.proofs.LeftOut.{loses_left_out, shows_rest}
use Rattle.rt_run.proofs.laws.left_out.Goals as goal

pub returns-clause-loses : goal.returns-clause-loses
returns-clause-loses c = loses_left_out c.feeds_are_independent.ensures

pub returns-clause-shows : goal.returns-clause-shows
returns-clause-shows c = shows_rest c.query_output.ensures.shows (loses_left_out c.feeds_are_independent.ensures) c.one_table_of_set.ensures
