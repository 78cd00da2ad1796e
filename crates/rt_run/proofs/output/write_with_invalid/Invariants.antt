use Rattle.std.proofs.Common.{◌≡◌, ℕ, List, ◌++◌, length}
use Rattle.std.specs.Io.KnownBytes.{Appends}
use Rattle.std.specs.List.{flat_map}
use Rattle.rt_run.specs.inside.Outputs.{with_invalid}
use Rattle.rt_run.proofs.output.write_with_invalid.Given as goal

-- a text was written; followed by the text of the rest it is the whole text
abbrev pub invariant-loop-line : goal.invariant-loop-line
invariant-loop-line g l = record {
  text : List ℕ;
  written : Appends (g.W.Write.contents l.fn.w) (g.W.Write.contents l.w) text;
  whole : text ++ with_invalid l.style.syntax (flat_map (g.P.Rows.row_of l.rows)) l.done l.rest l.lines
      ≡ l.fn.header ++ with_invalid l.style.syntax (flat_map (g.P.Rows.row_of l.rows)) 0 l.fn.items l.fn.invalid;
}

abbrev pub decreases-loop-line : goal.decreases-loop-line
decreases-loop-line g l = length l.lines
