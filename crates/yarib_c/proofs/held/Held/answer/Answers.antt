use Rattle.yarib_c.proofs.AnsweredCommands.{journaled}
use Rattle.yarib_c.proofs.held.Held.answer.Goals as goal

pub returns-in-Journaled-clause-answered : goal.returns-in-Journaled-clause-answered
returns-in-Journaled-clause-answered c =
    let done = c.apply-in-Journaled in
    rw c.in-Journaled.is
    (journaled c.args.feed c.args.cmd c.in-Journaled.book done.new.self done.result done.ensures.ok done.ensures.err)
