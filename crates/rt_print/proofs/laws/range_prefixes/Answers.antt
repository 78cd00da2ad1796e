use Rattle.rt_print.proofs.RangePrefixes.{prefixes_make_up, prefixes_rise, are_fewest}
use Rattle.rt_print.proofs.laws.range_prefixes.Goals as goal

pub returns-clause-exact : goal.returns-clause-exact
returns-clause-exact c = prefixes_make_up

pub returns-clause-rising : goal.returns-clause-rising
returns-clause-rising c = prefixes_rise

pub returns-clause-fewest : goal.returns-clause-fewest
returns-clause-fewest c = are_fewest c.ranges-2.ensures.covers c.nested.ensures.contains c.nested.ensures.nested
