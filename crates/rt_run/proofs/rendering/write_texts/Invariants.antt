use Rattle.std.proofs.Common.{◌*◌, take}
use Rattle.std.specs.List.{flat_map}
use Rattle.std.specs.Io.KnownBytes.{Appends}
use Rattle.rt_run.specs.declared.rendering.TheConstants.{PIECE_ITEMS}
use Rattle.rt_run.proofs.rendering.write_texts.Given as goal

-- the rows of the pieces before this one were written
abbrev pub invariant-loop-index : goal.invariant-loop-index
invariant-loop-index g l = Appends (g.W.Write.contents l.initial.w) (g.W.Write.contents l.w) (flat_map (g.P.Rows.row_of l.rows) (take (l.index * PIECE_ITEMS) l.items))
