use Rattle.std.proofs.Common.{◌≡◌, ◌≤◌, vec_len, vec_capacity}
use Rattle.rt_run.proofs.rendering.empty_texts.Given as goal

-- a text for each turn so far, and capacity for the others
abbrev pub invariant-loop : goal.invariant-loop
invariant-loop l = record {
  counted : vec_len l.texts ≡ l.counter;
  room : l.count ≤ vec_capacity l.texts;
}
