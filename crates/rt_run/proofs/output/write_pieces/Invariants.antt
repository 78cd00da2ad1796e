use Rattle.std.proofs.Common.{take}
use Rattle.std.specs.Io.KnownBytes.{Appends}
use Rattle.std.specs.List.{flat_map}
use Rattle.rt_print.specs.Styles.{rows_as}
use Rattle.rt_run.proofs.output.write_pieces.Given as goal

-- the rows of the pieces so far were written
abbrev pub invariant-loop-piece : goal.invariant-loop-piece
invariant-loop-piece g l = Appends (g.W.Write.contents l.initial.w) (g.W.Write.contents l.w) (rows_as l.style (flat_map (λ piece. piece.items) (take l.piece-index l.pieces)))
