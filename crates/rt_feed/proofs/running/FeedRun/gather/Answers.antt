use Rattle.std.proofs.Common.{refl, sym, append-nil}
use Rattle.std.proofs.lemmas.List.{map-append}
use Rattle.std.proofs.lemmas.Result.{err_from_is_err_and, on_ok_weaker, on_err_weaker}
use Rattle.rt_shared.specs.declared.outcome.Outcome.TheVariants.{Refused}
use Rattle.rt_feed.specs.Lines.{faulty, asked}
use Rattle.rt_feed.proofs.running.FeedRun.gather.Goals as goal

pub returns-in-Err-clause-ok : goal.returns-in-Err-clause-ok
returns-in-Err-clause-ok c =
    (on_ok_weaker c.push.result (λ reported. record {
      outcome = faulty c.in-Err.fault;
      reads = c.in-Err.ensures {u = tt};
      reported = reported;
      gathered = sym (append-nil _);
      first = refl;
      version = refl;
    }) c.push.ensures.ok)

pub returns-in-Err-clause-err : goal.returns-in-Err-clause-err
returns-in-Err-clause-err c =
    (on_err_weaker c.push.result (λ same. (faulty c.in-Err.fault, c.in-Err.ensures {u = tt}, λ none. absurd cc)) c.push.ensures.err)

pub returns-in_ok-push-in-Some-clause-ok : goal.returns-in_ok-push-in-Some-clause-ok
returns-in_ok-push-in-Some-clause-ok c =
    (on_ok_weaker c.push-in-Some-2.result (λ reported. record {
      outcome = asked c.in-Some.cmd Refused;
      reads = rw c.in-Some.is at (c.in-Ok.ensures {u = tt});
      reported = reported;
      gathered = rw ((c.in_ok-push-in-Some.ensures {u = tt}).items, map-append) refl;
      first = refl;
      version = refl;
    }) c.push-in-Some-2.ensures.ok)

pub returns-in_ok-push-in-Some-clause-err : goal.returns-in_ok-push-in-Some-clause-err
returns-in_ok-push-in-Some-clause-err c =
    (on_err_weaker c.push-in-Some-2.result (λ same. (asked c.in-Some.cmd Refused, rw c.in-Some.is at (c.in-Ok.ensures {u = tt}), λ none. absurd cc))
    c.push-in-Some-2.ensures.err)

pub returns-in_err-push-in-Some-clause-err : goal.returns-in_err-push-in-Some-clause-err
returns-in_err-push-in-Some-clause-err c =
    let fault = err_from_is_err_and c.from_residual.result c.from_residual.ensures.1 in
    rw fault.1 (asked c.in-Some.cmd Refused, rw c.in-Some.is at (c.in-Ok.ensures {u = tt}), λ none. absurd cc)
