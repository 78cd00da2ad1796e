use Rattle.std.proofs.Common.{take}
use Rattle.std.specs.Io.KnownBytes.{Appends}
use Rattle.rt_feed.specs.Printed.{report_text}
use Rattle.rt_feed.proofs.print.write_report.Given as goal

-- the lines so far were written
abbrev pub invariant-loop-line : goal.invariant-loop-line
invariant-loop-line g l =
    Appends (g.W.Write.contents l.initial.w) (g.W.Write.contents l.w) (report_text l.feed (take l.line-index l.line-items))
