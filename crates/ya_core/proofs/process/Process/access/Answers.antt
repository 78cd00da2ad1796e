use Rattle.std.proofs.Common.{arith}
use Rattle.ya_core.proofs.Numbers.{few_places}
use Rattle.ya_core.proofs.process.Process.access.Goals as goal

pub entry_access-requires-clause-room : goal.entry_access-requires-clause-room
entry_access-requires-clause-room c = omega (arith, few_places c.args.levels c.requires.most)

pub entry_access-requires-in-Entering-clause-room : goal.entry_access-requires-in-Entering-clause-room
entry_access-requires-in-Entering-clause-room c = omega (arith, few_places c.args.levels c.requires.most)
