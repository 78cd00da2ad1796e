use Rattle.rt_run.proofs.SameOutputs.{diffs_unions, counts_unions, diff_output_is_deterministic, count_output_is_deterministic}
use Rattle.rt_run.proofs.laws.comparison_output.Goals as goal

pub returns-clause-differs : goal.returns-clause-differs
returns-clause-differs c = diffs_unions c.union.ensures.leaves

pub returns-clause-same : goal.returns-clause-same
returns-clause-same c = diff_output_is_deterministic c.union.ensures.leaves c.union.ensures.one c.one_list.ensures.one c.union.ensures.tallies

pub returns-clause-same_counts : goal.returns-clause-same_counts
returns-clause-same_counts c =
    count_output_is_deterministic c.union.ensures.leaves c.union.ensures.one c.one_list.ensures.one c.union.ensures.tallies c.one_count_list.ensures

pub returns-clause-counts : goal.returns-clause-counts
returns-clause-counts c = counts_unions c.union.ensures.leaves
