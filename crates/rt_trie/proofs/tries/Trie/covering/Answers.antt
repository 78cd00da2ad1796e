use Rattle.std.proofs.Common.{◌∙◌}
use Rattle.rt_trie.specs.inside.Links.{pairs}
use Rattle.rt_trie.proofs.CoveringPairs.{covering_any}
use Rattle.rt_trie.proofs.tries.Trie.covering.Goals as goal

pub returns : goal.returns
returns g c = rw (← c.self.view_is) (c.new.ensures ∙ covering_any (pairs c.self.inside.root) c.args.a)
