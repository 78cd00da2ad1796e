use Rattle.std.proofs.Common.{◌≡◌, ◌-◌, ◌^◌, ◌≤◌}
use Rattle.rt_diff.specs.inside.Pieces.{ArePieces, HoldsUpTo}
use Rattle.rt_diff.proofs.pieces.last_of.Given as goal

-- every address from the first pieces to these has their answers, and these have them too
abbrev pub invariant-loop-by : goal.invariant-loop-by
invariant-loop-by g l = record {
  same_old_table : l.old ≡ l.fn.old;
  same_new_table : l.new ≡ l.fn.new;
  onward : l.first.from.0 ≤ l.pieces.from.0;
  so_far : HoldsUpTo l.by l.fn.old l.fn.new l.first l.pieces.from.0;
  there : ArePieces l.by l.fn.old l.fn.new l.pieces;
  same_old : l.pieces.old.answer ≡ l.first.old.answer;
  same_new : l.pieces.new.answer ≡ l.first.new.answer;
}

abbrev pub decreases-loop-by : goal.decreases-loop-by
decreases-loop-by g l = 2 ^ 32 - l.pieces.from.0
