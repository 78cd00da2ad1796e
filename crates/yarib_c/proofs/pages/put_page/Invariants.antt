use Rattle.std.proofs.Common.{◌≡◌, ◌-◌, length, drop}
use Rattle.yarib_c.proofs.FilledLists.{IsFilled}
use Rattle.yarib_c.proofs.pages.put_page.Given as goal

-- the first places have their routes, and those still to come are the others
abbrev pub invariant-loop-used : goal.invariant-loop-used
invariant-loop-used l = record {
  filled : IsFilled l.fn.from l.fn.routes l.routes l.used;
  rest : l.from ≡ drop l.used l.fn.from;
  long : length l.routes ≡ length l.fn.routes;
}

abbrev pub decreases-loop-used : goal.decreases-loop-used
decreases-loop-used l = length l.fn.routes - l.used
