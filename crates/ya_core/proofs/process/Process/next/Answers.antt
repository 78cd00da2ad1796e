use Rattle.std.proofs.Common.{arith}
use Rattle.ya_core.proofs.Numbers.{few_places}
use Rattle.ya_core.proofs.process.Process.next.Goals as goal

pub entry_next-requires-clause-room : goal.entry_next-requires-clause-room
entry_next-requires-clause-room c = omega (arith, few_places c.args.levels c.requires.most)

pub exit_next-requires : goal.exit_next-requires
exit_next-requires c = record { room = omega (arith, few_places c.args.levels c.requires.most) }
