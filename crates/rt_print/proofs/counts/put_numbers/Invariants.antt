use Rattle.std.proofs.Common.{length, get_or, take, flat_map}
use Rattle.std.specs.List.{range_with_len}
use Rattle.std.specs.Io.KnownBytes.{Appends}
use Rattle.rt_print.specs.Counts.{count_as}
use Rattle.rt_print.specs.Styles.{label_of}
use Rattle.rt_print.specs.inside.Parts.{label_pairs}
use Rattle.rt_print.proofs.counts.put_numbers.Given as goal

-- those at the positions so far were written
abbrev pub invariant-loop-number : goal.invariant-loop-number
invariant-loop-number g l =
    Appends (g.W.Write.contents l.initial.w) (g.W.Write.contents l.w)
    (flat_map (λ k. count_as l.syntax l.kind (label_of (label_pairs l.labels) k) (get_or l.counts k 0)) (take l.number (range_with_len 0 (length l.counts))))
