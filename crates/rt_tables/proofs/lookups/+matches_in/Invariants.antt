use Rattle.std.proofs.Common.{length}
use Rattle.rt_tables.proofs.lookups.+matches_in.Given as goal

abbrev pub decreases-matches_in : goal.decreases-matches_in
decreases-matches_in g l = length l.tables.now
