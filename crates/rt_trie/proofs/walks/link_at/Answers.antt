use Rattle.rt_trie.proofs.WalkStacks.{link_at-read}
use Rattle.rt_trie.proofs.walks.link_at.Goals as goal

pub returns : goal.returns
returns g c = link_at-read c.args.stack.now c.args.k c.index-stack-k.result c.requires c.index-stack-k.is
