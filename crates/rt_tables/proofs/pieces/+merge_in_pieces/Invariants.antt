use Rattle.std.proofs.Common.{◌+◌, ◌-◌, ◌*◌, ◌/◌}
use Rattle.rt_tables.proofs.pieces.+merge_in_pieces.Given as goal

-- a closure calls merge_in_pieces for its lists, which is called for fewer pieces
abbrev pub decreases-join+arg2 : goal.decreases-join+arg2
decreases-join+arg2 g l = 2 * (l.pieces - l.pieces / 2) + 2

abbrev pub decreases-join+arg3 : goal.decreases-join+arg3
decreases-join+arg3 g l = 2 * (l.pieces / 2) + 2

abbrev pub decreases-merge_in_pieces : goal.decreases-merge_in_pieces
decreases-merge_in_pieces g l = 2 * l.pieces + 1
