use Rattle.std.proofs.Common.{rules}
use Rattle.ya_core.proofs.process.entry_next.Goals as goal

pub returns-in-E5-2 : goal.returns-in-E5-2
returns-in-E5-2 c = search rules

pub returns-in-E5 : goal.returns-in-E5
returns-in-E5 c = search rules

pub returns-in-E9 : goal.returns-in-E9
returns-in-E9 c = search rules

pub returns-in-E4-2 : goal.returns-in-E4-2
returns-in-E4-2 c = search rules

pub returns-in-E6 : goal.returns-in-E6
returns-in-E6 c = search rules

pub returns-in-E8-2 : goal.returns-in-E8-2
returns-in-E8-2 c = search rules
