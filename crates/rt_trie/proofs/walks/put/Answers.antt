use Rattle.std.proofs.Common.{arith}
use Rattle.rt_trie.proofs.WalkStacks.{link_at-set_same, link_at-set_other}
use Rattle.rt_trie.proofs.walks.put.Goals as goal

pub returns-clause-here : goal.returns-clause-here
returns-clause-here g c = link_at-set_same c.args.stack.now c.args.k c.args.link c.requires

pub returns-clause-below : goal.returns-clause-below
returns-clause-below g c = λ j h. link_at-set_other c.args.stack.now j c.args.k c.args.link (λ e. omega arith)
