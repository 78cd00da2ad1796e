use Rattle.std.proofs.Common.{refl}
use Rattle.ya_lock.specs.declared.rule.View.TheVariants.{Watching}
use Rattle.ya_lock.proofs.RuleMeaning.{some_seat_goes_on}
use Rattle.ya_lock.proofs.DebtsKept.{step_keeps}
use Rattle.ya_lock.proofs.laws.no_lost_wakeup.Goals as goal

pub returns-clause-rung : goal.returns-clause-rung
returns-clause-rung g c = λ s rule seat place process value count at moves.
    (rule.2 seat place process (Watching place process value count) at (refl, refl)).1 moves

pub returns-clause-awake : goal.returns-clause-awake
returns-clause-awake g c = λ s rule seat place process value has busy.
    let one = some_seat_goes_on g.V.Kept.since g.row.L c.requires s rule seat place process value has busy in
    let other = one.0 in let q = one.1 in let x = one.2.0 in let v = one.2.1.0 in let view = one.2.1.1 in (
      other,
      q,
      (x, (v, (view.0, view.1, view.2, one.2.1.2, one.2.1.3, λ watching. (rule.2 other q x view.0 view.1 watching).1 one.2.1.3))),
    )

pub returns-clause-owing : goal.returns-clause-owing
returns-clause-owing g c = λ s t step. step_keeps g.V.Kept.since g.row.L s t step
