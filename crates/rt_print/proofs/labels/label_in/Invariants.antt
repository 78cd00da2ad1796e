use Rattle.std.proofs.Common.{◌≡◌, drop}
use Rattle.rt_print.specs.Styles.{label_of}
use Rattle.rt_print.specs.inside.Parts.{label_pairs}
use Rattle.rt_print.proofs.labels.label_in.Given as goal

-- none of the labels so far has the number
abbrev pub invariant-loop-label : goal.invariant-loop-label
invariant-loop-label l = label_of (label_pairs l.labels) l.feed ≡ label_of (label_pairs (drop l.label-index l.labels)) l.feed
