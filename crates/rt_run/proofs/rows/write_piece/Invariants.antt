use Rattle.std.proofs.Common.{take}
use Rattle.std.specs.Io.KnownBytes.{Appends}
use Rattle.rt_run.specs.inside.Outputs.{found_text}
use Rattle.rt_run.proofs.rows.write_piece.Given as goal

-- the answers so far were written
abbrev pub invariant-loop-index : goal.invariant-loop-index
invariant-loop-index g l =
    Appends (g.W.Write.contents l.initial.w) (g.W.Write.contents l.w) (found_text l.style (take l.index l.piece) l.tables)
