use Rattle.std.proofs.Common.{◌≡◌, ◌≤◌, length, map, take, vec_len, vec_capacity}
use Rattle.std.specs.List.{enumerate_from}
use Rattle.rt_print.specs.Labels.{paired_number}
use Rattle.rt_print.proofs.labels.pair_feeds_by_name.Given as goal

-- the numbers so far, and room for the others
abbrev pub invariant-loop-index : goal.invariant-loop-index
invariant-loop-index l = record {
  numbers : l.numbers.items ≡ map (λ feed. paired_number (map (λ path. path.now) l.first) feed.0 feed.1) (enumerate_from 1 (map (λ path. path.now) (take l.index l.second)));
  counted : vec_len l.numbers ≡ l.index;
  room : length l.second ≤ vec_capacity l.numbers;
}
