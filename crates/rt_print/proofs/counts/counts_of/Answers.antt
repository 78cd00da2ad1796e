use Rattle.std.proofs.Common.{◌+◌, drop, true, false, refl, arith, rules}
use Rattle.std.proofs.lemmas.Bool.Decides.{nat_tests}
use Rattle.std.proofs.lemmas.List.{drop_more}
use Rattle.rt_print.proofs.Counting.{no_counts, one_counted, prefix_more}
use Rattle.rt_print.proofs.counts.counts_of.Goals.{then-is_none_or, else-is_none_or}
use Rattle.rt_print.proofs.counts.counts_of.Goals as goal

pub loop-route-init : goal.loop-route-init
loop-route-init c = record { feeds = no_counts _ _ _; lengths = no_counts _ _ _; prefixes = (search rules, search rules) }

pub loop-route-preserved : goal.loop-route-preserved
loop-route-preserved c =
    let rest = drop (c.loop-route.route-index + 1) c.args.routes.now in
    let next = drop_more c.args.routes.now c.loop-route.route-index c.route-item.result c.loop-route-test.true in
    record {
      feeds = one_counted _ _ _ _ _ _ c.loop-route.invariant.feeds c.loop-route-test.true c.route-item.is _ (grind (arith, nat_tests));
      lengths = one_counted _ _ _ _ _ _ c.loop-route.invariant.lengths c.loop-route-test.true c.route-item.is _ (search rules);
      prefixes = elim c.if-is_none_or.branch [
        | then-is_none_or w ↦ (grind (arith, next, prefix_more c.loop-route.last c.route-item.result rest true (λ e. refl) (λ kept is. search rules)), search rules)
        | else-is_none_or w ↦ (grind (arith, next, prefix_more c.loop-route.last c.route-item.result rest false (λ e. search rules) (λ kept is. search rules)), search rules)
      ];
    }
