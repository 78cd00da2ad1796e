use Rattle.std.proofs.Common.{inl, inr, ⊎_elim}
use Rattle.rt_shared.proofs.Debts.{owed_by_another}
use Rattle.rt_shared.proofs.laws.nobody_is_forgotten.Goals as goal

pub returns-clause-rung : goal.returns-clause-rung
returns-clause-rung g c = λ s holds place process asleep moves.
    ⊎_elim (λ off. inl off)
    (λ owed. inr (owed_by_another s place process (c.rule.ensures s holds).places asleep owed))
    (c.no_lost_wakeup.ensures.rung s holds asleep.0 place process asleep.1.0 asleep.1.1.0 asleep.1.1.1 moves)

pub returns-clause-owing : goal.returns-clause-owing
returns-clause-owing g c = c.no_lost_wakeup.ensures.owing
