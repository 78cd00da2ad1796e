use Rattle.std.proofs.Common.{◌≡◌, ℕ, List, ◌++◌, length}
use Rattle.std.specs.Io.KnownBytes.{Appends}
use Rattle.rt_run.specs.inside.Outputs.{found_text}
use Rattle.rt_run.proofs.rows.write_answers.Given as goal

-- a text was written; followed by the answers of the rest it is the text of all answers
abbrev pub invariant-loop-rest : goal.invariant-loop-rest
invariant-loop-rest g l = record {
  text : List ℕ;
  written : Appends (g.W.Write.contents l.initial.w) (g.W.Write.contents l.w) text;
  whole : text ++ found_text l.style l.rest l.tables ≡ found_text l.style l.fn.addresses l.tables;
}

abbrev pub decreases-loop-rest : goal.decreases-loop-rest
decreases-loop-rest g l = length l.rest
