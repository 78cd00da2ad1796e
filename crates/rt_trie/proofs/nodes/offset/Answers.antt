use Rattle.rt_trie.proofs.Blocks.{offset_covered, offset_half}
use Rattle.rt_trie.proofs.nodes.offset.Goals as goal

pub returns-clause-covered : goal.returns-clause-covered
returns-clause-covered c = λ q k. rw (k.len_is, c.from.ensures, k.base_is) (offset_covered q (record { 0 = c.args.address }) c.ranges.address.fits)

pub returns-clause-half : goal.returns-clause-half
returns-clause-half c = λ q k covered short. rw (k.len_is, c.from.ensures, k.base_is) (offset_half q (record { 0 = c.args.address }) covered short)
