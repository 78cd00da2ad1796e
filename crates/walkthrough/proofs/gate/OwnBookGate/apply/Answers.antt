use Rattle.std.proofs.Common.{◌∷◌, [], ap}
use Rattle.std.proofs.lemmas.Result.{IfOk-weaker, on_err_weaker}
use Rattle.rt_feed.proofs.Remembered.{gains_visit, gains_still}
use Rattle.walkthrough.specs.inside.JournalTold.{told}
use Rattle.walkthrough.proofs.JournalTold.{told_more}
use Rattle.walkthrough.proofs.gate.OwnBookGate.apply.Goals as goal

pub returns-clause-ok : goal.returns-clause-ok
returns-clause-ok g c =
    let old = c.args.self.now.book.journal in let new = c.apply.new.self.journal in
    IfOk-weaker c.apply.result _ _ (λ reply more. gains_visit (told old) (told new) ((c.args.cmd, reply) ∷ []) (told_more old new c.args.cmd reply more.journaled))
    c.apply.ensures.ok

pub returns-clause-err : goal.returns-clause-err
returns-clause-err g c =
    on_err_weaker c.apply.result (λ same. gains_still (told c.args.self.now.book.journal) (told c.apply.new.self.journal) (ap told same.journaled)) c.apply.ensures.err
