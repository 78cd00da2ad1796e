use Rattle.std.proofs.Common.{ap, ◌∙◌}
use Rattle.rt_trie.specs.inside.Links.{pairs, covering_to}
use Rattle.rt_trie.proofs.tries.Trie.containing.Goals as goal

pub returns : goal.returns
returns g c =
    let m = pairs c.self.inside.root in
    rw (← c.self.view_is)
    (c.new.ensures ∙ ap (λ most. covering_to most m (record { 0 = c.base.result })) c.len.ensures
    ∙ ap (λ base. covering_to c.args.p.len m (record { 0 = base })) c.base.ensures)
