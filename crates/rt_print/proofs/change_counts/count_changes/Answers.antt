use Rattle.std.proofs.Common.{List, sym, subst}
use Rattle.std.specs.Map.{values_of}
use Rattle.std.proofs.lemmas.List.{take_all}
use Rattle.std.proofs.lemmas.Result.{IfOk-weaker}
use Rattle.rt_print.specs.declared.change_counts.ChangeCount.{ChangeCount}
use Rattle.rt_print.specs.ChangeCounts.{AreChangeCounts}
use Rattle.rt_print.proofs.change_counts.count_changes.Goals as goal

pub returns : goal.returns
returns c =
    let far = c.loop-difference.invariant in
    let all = take_all c.loop-difference.difference-index c.args.differences.now c.loop-difference-test.false in
    let are : AreChangeCounts c.args.differences.now (values_of c.loop-difference.counts.entries) = record {
      ranges = rw all at far.ranges;
      addresses = rw all at far.addresses;
      some = far.some;
      rising = c.counts_in.ensures.rising far.keyed;
    } in
    IfOk-weaker c.counts_in.result _ _ (λ list is. subst (λ (counts : List ChangeCount). AreChangeCounts c.args.differences.now counts) (sym is) are) c.counts_in.ensures.values
