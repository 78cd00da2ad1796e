use Rattle.yarib_c.proofs.AnsweredCommands.{journaled_changed}
use Rattle.yarib_c.proofs.held.Held.answer_changed.Goals as goal

pub returns-in-Journaled-clause-answered : goal.returns-in-Journaled-clause-answered
returns-in-Journaled-clause-answered c =
    let done = c.apply_changed-in-Journaled in
    rw c.in-Journaled.is
    (journaled_changed c.args.feed c.args.cmd c.in-Journaled.book done.new.self done.result done.ensures.ok done.ensures.changes done.ensures.err)
