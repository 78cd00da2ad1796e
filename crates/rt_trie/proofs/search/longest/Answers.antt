use Rattle.std.proofs.Common.{sym, ap, ◌∙◌}
use Rattle.rt_trie.specs.Map.{pair_copied}
use Rattle.rt_trie.specs.inside.Links.{last_cover, pairs}
use Rattle.rt_trie.proofs.NodePairs.{all_no_longer}
use Rattle.rt_trie.proofs.LinkOrder.{longest_of}
use Rattle.rt_trie.proofs.search.longest.Goals as goal

pub returns : goal.returns
returns g c =
    let link = c.args.root.now in
    let all = ap (λ m. last_cover m c.args.address) (all_no_longer (pairs link)) in
    longest_of link c.args.address (pair_copied c.longest_to.result) c.requires.0 (sym all ∙ c.longest_to.ensures)
