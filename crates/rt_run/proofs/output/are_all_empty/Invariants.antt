use Rattle.std.proofs.Common.{◌≡◌, length, take}
use Rattle.std.specs.List.{flat_map}
use Rattle.rt_run.proofs.output.are_all_empty.Given as goal

-- the pieces so far have no routes
abbrev pub invariant-loop-piece : goal.invariant-loop-piece
invariant-loop-piece l = length (flat_map (λ piece. piece.items) (take l.piece-index l.pieces)) ≡ 0
