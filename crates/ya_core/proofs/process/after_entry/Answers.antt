use Rattle.std.proofs.Common.{rules}
use Rattle.ya_core.proofs.process.after_entry.Goals as goal

pub returns-then-level-levels : goal.returns-then-level-levels
returns-then-level-levels c = search rules
