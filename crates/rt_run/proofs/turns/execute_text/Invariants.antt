use Rattle.std.proofs.Common.{length}
use Rattle.rt_rib.specs.Book.{table_state}
use Rattle.rt_run.specs.inside.Runs.{IsExecuting}
use Rattle.rt_run.proofs.turns.execute_text.Given as goal

-- the lines so far were executed
abbrev pub invariant-loop-line : goal.invariant-loop-line
invariant-loop-line l = IsExecuting l.version l.feed l.text l.rest l.number (table_state l.initial.table) (table_state l.table) l.tally

abbrev pub decreases-loop-line : goal.decreases-loop-line
decreases-loop-line l = length l.rest
