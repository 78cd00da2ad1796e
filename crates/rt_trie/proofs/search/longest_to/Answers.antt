use Rattle.std.proofs.Common.{ap, ◌∙◌}
use Rattle.rt_trie.specs.inside.Links.{or_else, last_cover}
use Rattle.rt_trie.specs.Map.{pair_copied}
use Rattle.rt_trie.proofs.LinkOrder.{none_no_longer}
use Rattle.rt_trie.proofs.search.longest_to.Goals as goal

pub returns : goal.returns
returns g c =
    let i = c.loop-link.invariant in
    let none = none_no_longer c.loop-link.link.now c.args.most i.lawful (c.is_no_longer.ensures.past c.loop-link-test.false) in
    i.found ∙ ap (λ m. or_else (last_cover m c.args.address) (pair_copied c.loop-link.best)) none
