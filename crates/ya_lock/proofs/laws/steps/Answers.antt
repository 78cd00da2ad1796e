use Rattle.ya_lock.proofs.DueSteps.{each_may_step}
use Rattle.ya_lock.proofs.laws.steps.Goals as goal

pub returns : goal.returns
returns g c =
    each_may_step g.V.Kept.since g.V.Kept.done g.V.Kept.since_same g.V.Kept.since_done g.row.L c.requires
