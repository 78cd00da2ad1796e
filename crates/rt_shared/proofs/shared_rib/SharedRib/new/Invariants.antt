use Rattle.std.proofs.Common.{◌≡◌, ◌+◌, ◌<◌, ◌≤◌, ◌++◌, All, map, length, vec_len, vec_capacity}
use Rattle.std.specs.Vec.Iter.{into_iter_items, into_iter_len}
use Rattle.rt_shared.specs.inside.PassModel.{of_feed}
use Rattle.rt_shared.proofs.shared_rib.SharedRib.new.Given as goal

abbrev pub invariant-loop-pass : goal.invariant-loop-pass
invariant-loop-pass g l = record {
  next : (goal.iterator-loop-pass g).can_next l.pass-iterator;
  finite : (goal.iterator-loop-pass g).is_finite l.pass-iterator;
  long : into_iter_len l.pass-iterator ≡ length (into_iter_items l.pass-iterator);
  rest : All (λ p. p.place < p.seen.feeds) (into_iter_items l.pass-iterator);
  made : l.feed_passes.items ++ map of_feed (into_iter_items l.pass-iterator) ≡ map of_feed (into_iter_items l.initial.pass-iterator);
  room : vec_len l.feed_passes + length (into_iter_items l.pass-iterator) ≤ vec_capacity l.feed_passes;
}
