use Rattle.std.proofs.Common.{ap, ◌∙◌}
use Rattle.ya_lock.specs.Lock.{IdlePass}
use Rattle.ya_lock.proofs.TreeSize.{place_below}
use Rattle.ya_lock.proofs.passage.Passage.begin.Goals as goal

pub new-walker-requires : goal.new-walker-requires
new-walker-requires g c =
    place_below c.pass.inside.seat.table_id c.args.lock.now c.pass.inside.place g.row.L c.shape.result
    (ap (λ (q : IdlePass g.row.V.Denot). q.lock) c.pass.view_is ∙ c.requires)
    c.holds_tree.ensures.words c.shape.ensures c.pass.invariant.in_tree
