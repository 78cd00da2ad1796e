use Rattle.std.proofs.Common.{take, flat_map}
use Rattle.std.specs.Io.KnownBytes.{Appends}
use Rattle.rt_print.specs.ChangeCounts.{count_line}
use Rattle.rt_print.proofs.change_counts.put_counts.Given as goal

-- the counts so far were written
abbrev pub invariant-loop-count : goal.invariant-loop-count
invariant-loop-count g l =
    Appends (g.W.Write.contents l.initial.w) (g.W.Write.contents l.w) (flat_map (count_line l.syntax) (take l.count-index l.counts))
