use Rattle.std.proofs.Common.{take}
use Rattle.std.specs.Io.KnownBytes.{Appends}
use Rattle.rt_print.specs.DifferenceText.{differences_as}
use Rattle.rt_run.proofs.output.write_ranges.Given as goal

-- the lines of the ranges so far were written
abbrev pub invariant-loop-difference : goal.invariant-loop-difference
invariant-loop-difference g l = Appends (g.W.Write.contents l.initial.w) (g.W.Write.contents l.w) (differences_as l.options (take l.difference-index l.list))
