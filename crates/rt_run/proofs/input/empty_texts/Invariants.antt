use Rattle.std.proofs.Common.{◌≡◌, ◌≤◌, [], map, replicate, vec_capacity}
use Rattle.rt_run.proofs.input.empty_texts.Given as goal

-- so many empty texts so far, and capacity for the others
abbrev pub invariant-loop : goal.invariant-loop
invariant-loop l = record {
  empty : map (λ text. text.items) l.texts.items ≡ replicate l.counter [];
  room : l.count ≤ vec_capacity l.texts;
}
