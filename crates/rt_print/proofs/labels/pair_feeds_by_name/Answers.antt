use Rattle.std.proofs.Common.{ℕ, List, [], arith, rules, map, map-id, sym, ◌∙◌}
use Rattle.rt_print.specs.Labels.{paired_number}
use Rattle.rt_print.proofs.FeedLabels.{labels_more}
use Rattle.rt_print.proofs.labels.pair_feeds_by_name.Goals as goal

pub loop-index-preserved : goal.loop-index-preserved
loop-index-preserved c = record {
  numbers = sym (map-id _) ∙ labels_more (λ path. path.now) (λ n. n) (λ (feed : ℕ × List ℕ). paired_number (map (λ path. path.now) c.args.first.now) feed.0 feed.1) c.args.second.now c.loop-index.index (record { ref_ptr = (0, 0); now = [] }) _ _ _
      c.loop-index-test.true c.push_reserved.ensures.items (search rules) (map-id _ ∙ c.loop-index.invariant.numbers);
  counted = omega (arith, c.push_reserved.ensures.len, c.loop-index.invariant.counted);
  room = omega (arith, c.push_reserved.ensures.capacity, c.loop-index.invariant.room);
}
