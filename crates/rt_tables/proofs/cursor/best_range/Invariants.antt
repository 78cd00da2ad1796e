use Rattle.std.proofs.Common.{◌≡◌, ◌≤◌, take}
use Rattle.rt_tables.specs.Unions.{union_of}
use Rattle.rt_tables.specs.inside.Answers.{HoldsFromTo}
use Rattle.rt_tables.proofs.cursor.best_range.Given as goal

-- the best answer of the tables that were asked, and how far it holds
abbrev pub invariant-loop-k : goal.invariant-loop-k
invariant-loop-k g l = record {
  same : l.cursors ≡ l.fn.cursors;
  onward : l.addr.0 ≤ l.last.0;
  holds : HoldsFromTo (union_of (take l.k l.fn.cursors)) l.addr l.last l.best;
}
