use Rattle.rt_trie.specs.inside.Links.{count}
use Rattle.rt_trie.proofs.search.+after.Given as goal

abbrev pub decreases-after : goal.decreases-after
decreases-after g l = count l.link.now
