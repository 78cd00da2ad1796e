use Rattle.std.proofs.Common.{◌≡◌, ◌++◌}
use Rattle.rt_trie.specs.Map.{containing}
use Rattle.rt_rib.specs.Maps.{routes_of}
use Rattle.rt_rib.proofs.selection.routes_covering.Given as goal

-- the routes already in the list and the remaining ones
abbrev pub invariant-loop-stored : goal.invariant-loop-stored
invariant-loop-stored g l = l.routes.items ++ routes_of l.stored-iterator ≡ routes_of (containing l.map.pairs l.fn.prefix)
