use Rattle.rt_run.proofs.SameTables.{shows_union, query_output_is_deterministic}
use Rattle.rt_run.proofs.SameOutputs.{answers_are_deterministic}
use Rattle.rt_run.proofs.laws.query_output.Goals as goal

pub returns-clause-shows : goal.returns-clause-shows
returns-clause-shows c = shows_union c.union.ensures.leaves

pub returns-clause-same : goal.returns-clause-same
returns-clause-same c = query_output_is_deterministic (shows_union c.union.ensures.leaves) c.union.ensures.one c.union.ensures.tallies

pub returns-clause-answers : goal.returns-clause-answers
returns-clause-answers c =
    answers_are_deterministic (query_output_is_deterministic (shows_union c.union.ensures.leaves) c.union.ensures.one c.union.ensures.tallies) c.one_address_text.ensures
