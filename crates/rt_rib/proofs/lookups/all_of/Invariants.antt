use Rattle.std.proofs.Common.{◌≡◌, ◌++◌, reverse}
use Rattle.rt_trie.specs.Map.{covering}
use Rattle.rt_rib.specs.inside.Maps.{routes_backward}
use Rattle.rt_rib.proofs.lookups.all_of.Given as goal

-- the remaining routes and those already in the list
abbrev pub invariant-loop-prefix : goal.invariant-loop-prefix
invariant-loop-prefix g l =
    routes_backward l.prefix-iterator ++ reverse l.routes.items ≡ routes_backward (covering l.map.pairs l.fn.addr)
