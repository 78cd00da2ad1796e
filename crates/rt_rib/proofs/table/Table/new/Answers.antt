use Rattle.rt_rib.proofs.Tables.{IsTable-nil}
use Rattle.rt_rib.proofs.Counts.{AreCounts-nil}
use Rattle.rt_rib.proofs.table.Table.new.Goals as goal

pub invariant_of-result : goal.invariant_of-result
invariant_of-result g c = rw c.new.ensures (record { limited = c.requires; table = IsTable-nil; counted = AreCounts-nil c.args.limit })
