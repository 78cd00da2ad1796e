use Rattle.std.proofs.Common.{ℕ, List, [], arith, rules, map}
use Rattle.rt_print.specs.Labels.{label_by, paired_number}
use Rattle.rt_print.proofs.FeedLabels.{labels_more}
use Rattle.rt_print.proofs.labels.labels_by.Goals as goal

pub loop-index-preserved : goal.loop-index-preserved
loop-index-preserved c = record {
  labels = labels_more {X = ℕ × List ℕ} (λ path. path.now) (λ label. (label.number, label.text.items)) (λ (feed : ℕ × List ℕ). (paired_number (map (λ path. path.now) c.args.first.now) feed.0 feed.1, label_by c.args.format feed.0 feed.1)) c.args.paths.now c.loop-index.index (record { ref_ptr = (0, 0); now = [] }) _ _ _
      c.loop-index-test.true c.push_reserved.ensures.items (search rules) c.loop-index.invariant.labels;
  counted = omega (arith, c.push_reserved.ensures.len, c.loop-index.invariant.counted);
  room = omega (arith, c.push_reserved.ensures.capacity, c.loop-index.invariant.room);
}
