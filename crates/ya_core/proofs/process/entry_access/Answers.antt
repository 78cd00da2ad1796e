use Rattle.std.proofs.Common.{rules}
use Rattle.ya_core.proofs.process.entry_access.Goals as goal

pub returns-in-E1 : goal.returns-in-E1
returns-in-E1 c = search rules

pub returns-in-E2 : goal.returns-in-E2
returns-in-E2 c = search rules

pub returns-in-E3 : goal.returns-in-E3
returns-in-E3 c = search rules

pub returns-in-E4 : goal.returns-in-E4
returns-in-E4 c = search rules

pub returns-in-E7 : goal.returns-in-E7
returns-in-E7 c = search rules
