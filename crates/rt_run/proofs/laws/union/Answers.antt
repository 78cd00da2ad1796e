use Rattle.rt_run.proofs.SameTables.{leaves_union, one_union, own_replies_are_independent}
use Rattle.rt_run.proofs.SameTallies.{same_tallies}
use Rattle.rt_run.proofs.laws.union.Goals as goal

pub returns-clause-leaves : goal.returns-clause-leaves
returns-clause-leaves c = leaves_union c.feeds_are_independent.ensures c.table_by_entry.ensures c.visits.ensures.entries c.one_reading.ensures

pub returns-clause-one : goal.returns-clause-one
returns-clause-one c = one_union c.one_table_of_set.ensures

pub returns-clause-alone : goal.returns-clause-alone
returns-clause-alone c = own_replies_are_independent c.feeds_are_independent.ensures c.visits.ensures.entries

pub returns-clause-tallies : goal.returns-clause-tallies
returns-clause-tallies c = same_tallies c.feeds_are_independent.ensures c.visits.ensures.entries c.one_reading.ensures
