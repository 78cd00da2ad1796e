use Rattle.std.proofs.Common.{rules}
use Rattle.ya_core.proofs.machine.mark.Goals as goal

pub returns-in-Idle : goal.returns-in-Idle
returns-in-Idle c = search rules
