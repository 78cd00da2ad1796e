use Rattle.std.proofs.Common.{arith}
use Rattle.rt_diff.proofs.Parts.{all_listed}
use Rattle.rt_diff.proofs.listing.ComparedTables+Global.differences.Goals as goal

pub returns-then-threads-lt2 : goal.returns-then-threads-lt2
returns-then-threads-lt2 g c = all_listed c.args.self.now 4294967296 c.list_in_turn.result (omega arith) c.list_in_turn.ensures
