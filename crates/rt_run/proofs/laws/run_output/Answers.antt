use Rattle.rt_run.proofs.SameTables.{ends_in_union, final_table_is_deterministic}
use Rattle.rt_run.proofs.SameTallies.{same_lines}
use Rattle.rt_run.proofs.laws.run_output.Goals as goal

pub returns-clause-ends : goal.returns-clause-ends
returns-clause-ends c = ends_in_union c.union.ensures.leaves

pub returns-clause-same : goal.returns-clause-same
returns-clause-same c = final_table_is_deterministic (ends_in_union c.union.ensures.leaves) c.union.ensures.one c.union.ensures.tallies

pub returns-clause-lines : goal.returns-clause-lines
returns-clause-lines c = same_lines c.feeds_are_independent.ensures c.visits.ensures.entries c.one_reading.ensures
