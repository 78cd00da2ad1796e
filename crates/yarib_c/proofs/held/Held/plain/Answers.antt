use Rattle.yarib_c.proofs.AnsweredCommands.{new_plain}
use Rattle.yarib_c.proofs.held.Held.plain.Goals as goal

pub returns : goal.returns
returns c = new_plain c.args.limit c.new.result c.new.ensures
