use Rattle.ya_lock.proofs.OnlyDueStep.{only_due, due_keeps_content}
use Rattle.ya_lock.proofs.OtherKinds.{other_leaves, gift_leaves}
use Rattle.ya_lock.proofs.laws.kinds.Goals as goal

pub returns-clause-due : goal.returns-clause-due
returns-clause-due g c = λ s t old new seat place process seen count slots k.
    let step = only_due g.V.Kept.since g.row.L c.requires s t old new seat place process seen count slots k in
    (step, due_keeps_content g.V.Kept.since g.row.L c.requires s t seat place k.vain process seen count slots k.view step)

pub returns-clause-others : goal.returns-clause-others
returns-clause-others g c = λ s t old k. other_leaves g.V.Kept.since g.row.L s t old k

pub returns-clause-gift : goal.returns-clause-gift
returns-clause-gift g c = λ s t value old k. gift_leaves g.V.Kept.since g.row.L s t value old k
