use Rattle.std.proofs.Common.{take}
use Rattle.std.specs.Io.KnownBytes.{Appends}
use Rattle.rt_run.specs.RunText.{reports_text}
use Rattle.rt_run.proofs.output.write_run.Given as goal

-- the reports so far were written
abbrev pub invariant-loop-index : goal.invariant-loop-index
invariant-loop-index g l = Appends (g.W.Write.contents l.initial.w) (g.W.Write.contents l.w) (reports_text 1 (take l.index l.reports))
