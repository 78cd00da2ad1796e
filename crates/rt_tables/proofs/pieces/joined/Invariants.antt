use Rattle.std.proofs.Common.{◌≡◌}
use Rattle.std.specs.List.{flat_map}
use Rattle.rt_tables.proofs.pieces.joined.Given as goal

-- the routes of the pieces so far
abbrev pub invariant-loop-piece : goal.invariant-loop-piece
invariant-loop-piece l = l.routes.items ≡ flat_map (λ list. list.items) l.yielded
