use Rattle.std.proofs.Common.{◌≡◌, ℕ, ◌^◌, ◌<◌, ◌≤◌, [], slice_get, vec_len, vec_capacity, Some}
use Rattle.ya_lock.specs.declared.rule.View.TheVariants.{HandingOut}
use Rattle.ya_lock.specs.Lock.{new_pass}
use Rattle.ya_lock.proofs.tree_lock.TreeLock.make_passes.Given as goal

abbrev pub invariant-loop-place : goal.invariant-loop-place
invariant-loop-place g l = record {
  same : l.maker.table_id ≡ l.self;
  view : l.maker.me ≡ (HandingOut l.place l.seen.value, []);
  count : vec_len l.passes ≡ l.place;
  made : (k : ℕ) → k < l.place → slice_get l.passes.items k ≡ Some (new_pass l.self k l.seen.value);
  capacity : 2 ^ g.row.L ≤ vec_capacity l.passes;
}
