use Rattle.std.proofs.Common.{Some, Ok, refl}
use Rattle.rt_feed.specs.CommandText.{command_text}
use Rattle.rt_feed.proofs.laws.command_text.Goals as goal

pub returns-clause-read : goal.returns-clause-read
returns-clause-read c = λ version cmd answer fits is. c.one_answer.ensures version (command_text cmd) answer (Ok (Some cmd)) is (fits, refl)
