use Rattle.std.proofs.Common.{◌≡◌, ◌*◌, ◌≤◌, ℕ, List, ◌++◌, length, vec_len}
use Rattle.std.specs.List.{flat_map}
use Rattle.std.specs.Io.KnownBytes.{Appends}
use Rattle.rt_run.specs.declared.rendering.TheConstants.{PIECE_ITEMS}
use Rattle.rt_run.specs.inside.Pieces.{ArePieceTexts}
use Rattle.rt_run.proofs.rendering.write_on_threads.Given as goal

-- a text was written, the group is rendered; the text, and the rows of the group and of the rest, are the text of all rows
abbrev pub invariant-loop-rest : goal.invariant-loop-rest
invariant-loop-rest g l = record {
  text : List ℕ;
  written : Appends (g.W.Write.contents l.initial.w) (g.W.Write.contents l.w) text;
  rendered : ArePieceTexts (g.P.Rows.row_of l.rows) l.group l.texts.items;
  whole : text ++ flat_map (g.P.Rows.row_of l.rows) (l.group ++ l.rest) ≡ flat_map (g.P.Rows.row_of l.rows) l.fn.items;
  room : l.most ≤ vec_len l.next_texts * PIECE_ITEMS;
  other_room : l.most ≤ vec_len l.texts * PIECE_ITEMS;
}

abbrev pub decreases-loop-rest : goal.decreases-loop-rest
decreases-loop-rest g l = length l.rest
