use Rattle.yarib_c.proofs.AnsweredCommands.{new_journaled}
use Rattle.yarib_c.proofs.held.Held.journaled.Goals as goal

pub returns : goal.returns
returns c = new_journaled c.args.limit c.new.result c.new.ensures.limit c.new.ensures.journal
