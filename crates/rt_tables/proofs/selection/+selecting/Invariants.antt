use Rattle.std.proofs.Common.{◌+◌, ◌*◌, length}
use Rattle.rt_tables.proofs.selection.+selecting.Given as goal

-- select_from calls select_halves for the same tables, and its closures call select_from for half of them
abbrev pub decreases-select_from : goal.decreases-select_from
decreases-select_from g l = 3 * length l.tables.now + 1

abbrev pub decreases-select_halves : goal.decreases-select_halves
decreases-select_halves g l = 3 * length l.tables.now

abbrev pub decreases-select_halves-join+arg2 : goal.decreases-select_halves-join+arg2
decreases-select_halves-join+arg2 g l = 3 * length l.some.now + 2

abbrev pub decreases-select_halves-join+arg3 : goal.decreases-select_halves-join+arg3
decreases-select_halves-join+arg3 g l = 3 * length l.others.now + 2
