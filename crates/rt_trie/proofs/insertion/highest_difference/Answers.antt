use Rattle.rt_trie.proofs.Partings.{few_zeros, highest_by_zeros}
use Rattle.rt_trie.proofs.insertion.highest_difference.Goals as goal

pub overflow_sub-result : goal.overflow_sub-result
overflow_sub-result c = few_zeros c.args.a c.args.b c.ranges.a.fits c.ranges.b.fits c.requires.differ

pub returns-clause-same : goal.returns-clause-same
returns-clause-same c = (highest_by_zeros c.args.a c.args.b c.ranges.a.fits c.ranges.b.fits c.requires.differ).0

pub returns-clause-differ : goal.returns-clause-differ
returns-clause-differ c = (highest_by_zeros c.args.a c.args.b c.ranges.a.fits c.ranges.b.fits c.requires.differ).1
