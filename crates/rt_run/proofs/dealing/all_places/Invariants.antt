use Rattle.std.proofs.Common.{◌≡◌, ◌<◌, ◌≤◌, length, All, vec_len, vec_capacity}
use Rattle.rt_run.proofs.dealing.all_places.Given as goal

-- the places so far are those of texts, and there is capacity for the others
abbrev pub invariant-loop-index : goal.invariant-loop-index
invariant-loop-index l = record {
  within : All (λ index. index < length l.input.texts) l.places.items;
  counted : vec_len l.places ≡ l.index;
  room : length l.input.texts ≤ vec_capacity l.places;
}
