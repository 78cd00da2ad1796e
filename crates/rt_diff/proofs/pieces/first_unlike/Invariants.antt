use Rattle.std.proofs.Common.{◌≡◌, ◌-◌, ◌^◌, ◌≤◌}
use Rattle.rt_diff.specs.inside.Pieces.{ArePieces, AreAlike}
use Rattle.rt_diff.proofs.pieces.first_unlike.Given as goal

-- every address before these pieces has the same answer in both tables
abbrev pub invariant-loop-by : goal.invariant-loop-by
invariant-loop-by g l = record {
  same_old_table : l.old ≡ l.fn.old;
  same_new_table : l.new ≡ l.fn.new;
  onward : l.fn.from.0 ≤ l.pieces.from.0;
  near : l.pieces.from.0 ≤ l.fn.last.0;
  before : AreAlike l.by l.fn.old l.fn.new l.fn.from l.pieces.from.0;
  there : ArePieces l.by l.fn.old l.fn.new l.pieces;
}

abbrev pub decreases-loop-by : goal.decreases-loop-by
decreases-loop-by g l = 2 ^ 32 - l.pieces.from.0
