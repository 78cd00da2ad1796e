use Rattle.std.proofs.Common.{◌≡◌, ℕ, ◌+◌, ◌<◌, length}
use Rattle.std.specs.Prelude.{slice_get}
use Rattle.std.specs.Option.{option_map}
use Rattle.yarib_c.proofs.lists.put.Given as goal

-- the first of these places have their own
abbrev pub invariant-loop-k : goal.invariant-loop-k
invariant-loop-k g l = record {
  each : (j : ℕ) → j < l.k → slice_get l.places j ≡ option_map g.C.FormOf.form (slice_get l.all (l.skip + j));
  long : length l.places ≡ length l.fn.places;
}
