use Rattle.std.proofs.Common.{take, flat_map}
use Rattle.std.specs.List.{range_with_len}
use Rattle.std.specs.Io.KnownBytes.{Appends}
use Rattle.rt_print.specs.declared.change_counts.TheConstants.{KINDS}
use Rattle.rt_print.specs.ChangeCounts.{kind_as}
use Rattle.rt_print.proofs.change_counts.put_kinds.Given as goal

-- the kinds so far were written
abbrev pub invariant-loop-kind : goal.invariant-loop-kind
invariant-loop-kind g l =
    Appends (g.W.Write.contents l.initial.w) (g.W.Write.contents l.w) (flat_map (kind_as l.syntax l.counts) (take l.kind (range_with_len 0 KINDS)))
