use Rattle.std.proofs.Common.{◌≡◌, ◌≤◌, length, map, take, vec_len, vec_capacity}
use Rattle.std.specs.List.{enumerate_from}
use Rattle.rt_print.specs.Labels.{label_by, paired_number}
use Rattle.rt_print.specs.inside.Parts.{label_pairs}
use Rattle.rt_print.proofs.labels.labels_by.Given as goal

-- the labels so far, and room for the others
abbrev pub invariant-loop-index : goal.invariant-loop-index
invariant-loop-index l = record {
  labels : label_pairs l.labels.items ≡ map (λ feed. (paired_number (map (λ path. path.now) l.first) feed.0 feed.1, label_by l.format feed.0 feed.1)) (enumerate_from 1 (map (λ path. path.now) (take l.index l.paths)));
  counted : vec_len l.labels ≡ l.index;
  room : length l.paths ≤ vec_capacity l.labels;
}
