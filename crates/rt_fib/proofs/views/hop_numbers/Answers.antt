use Rattle.std.proofs.Common.{sym, arith}
use Rattle.std.proofs.lemmas.List.{get_or_read}
use Rattle.rt_fib.proofs.Shown.{hops_push}
use Rattle.rt_fib.proofs.views.hop_numbers.Goals as goal

pub answers-preserved : goal.answers-preserved
answers-preserved g c =
    let v = c.answers.invariant in
    let made = c.in_ok-number.ensures in
    record {
      some = omega (arith, v.some, made.extends.longer);
      made = rw c.in_ok-push.ensures.items
          (hops_push _ _ _ c.args.answers.now c.answers.n _ _ made.extends v.made made.hop (λ d. sym (get_or_read c.args.answers.now c.answers.n _ (omega arith) c.index-answers-n.is d)));
    }
