use Rattle.rt_run.proofs.Shares.{shares_are_apart, shares_are_one_run}
use Rattle.rt_run.proofs.laws.shares.Goals as goal

pub returns-clause-apart : goal.returns-clause-apart
returns-clause-apart c = shares_are_apart c.feeds_are_independent.ensures c.visits.ensures.entries c.table_by_entry.ensures

pub returns-clause-one : goal.returns-clause-one
returns-clause-one c =
    shares_are_one_run c.feeds_are_independent.ensures c.visits.ensures.entries c.table_by_entry.ensures c.one_table_of_set.ensures
