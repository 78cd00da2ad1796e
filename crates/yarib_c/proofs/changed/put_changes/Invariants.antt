use Rattle.std.proofs.Common.{◌≡◌, ◌+◌, length, drop}
use Rattle.yarib_c.specs.Changes.{change_as}
use Rattle.yarib_c.proofs.ShownParts.{IsShown}
use Rattle.yarib_c.proofs.changed.put_changes.Given as goal

-- the changes that were visited are in their places, and those still to come are the others
abbrev pub invariant-loop-change : goal.invariant-loop-change
invariant-loop-change l = record {
  counted : l.total + length l.change-iterator ≡ length l.fn.all;
  rest : l.change-iterator ≡ drop l.total l.fn.all;
  shown : IsShown change_as l.fn.all l.skip l.total l.places;
}
