use Rattle.std.proofs.Common.{◌≡◌, ◌+◌, ◌-◌, ◌≤◌, ◌++◌, length, drop}
use Rattle.rt_tables.specs.inside.Merging.{goes_before, merged}
use Rattle.rt_tables.proofs.merge.append_merged.Given as goal

-- what is appended, and the rest of both lists merged, are all of them merged
abbrev pub invariant-loop-i : goal.invariant-loop-i
invariant-loop-i g l = record {
  rest : l.routes.items ++ merged (goes_before l.order) (drop l.i l.first) (drop l.j l.second)
      ≡ l.fn.routes.items ++ merged (goes_before l.order) l.first l.second;
  first : l.i ≤ length l.first;
  second : l.j ≤ length l.second;
}

abbrev pub decreases-loop-i : goal.decreases-loop-i
decreases-loop-i g l = (length l.first - l.i) + (length l.second - l.j)
