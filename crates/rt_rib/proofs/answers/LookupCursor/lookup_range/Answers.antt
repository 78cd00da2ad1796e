use Rattle.std.proofs.Common.{sym, ap, ◌∙◌}
use Rattle.rt_rib.specs.LookUp.{look_up}
use Rattle.rt_rib.proofs.answers.LookupCursor.lookup_range.Goals as goal

pub returns-clause-same : goal.returns-clause-same
returns-clause-same g c = λ b from to.
    ap (λ routes. look_up b routes) (sym c.self.view_is)
    ∙ sym (c.best_at.ensures c.self.inside.map b c.self.invariant (c.match_range.ensures.same b from to))
