use Rattle.std.proofs.Common.{refl}
use Rattle.std.specs.List.{flat_map, enumerate_from}
use Rattle.std.proofs.lemmas.List.{get_or_default, take_all}
use Rattle.rt_print.specs.ReplayText.{step_text}
use Rattle.rt_print.proofs.Writing.{appends_next, begins_all, stops_within, writes_after}
use Rattle.rt_print.proofs.replays.write_replay.Goals as goal

pub returns-in_err-put_step : goal.returns-in_err-put_step
returns-in_err-put_step g c =
    stops_within _ _ _ _ _ c.from_residual.ensures.0 (begins_all step_text (λ number steps. flat_map (λ step. step_text step.0 step.1) (enumerate_from number steps)) (λ n. refl) (λ n x xs. refl) c.args.steps.now c.loop-index.index _ c.loop-index-test.true (get_or_default _ _ _ _ c.loop-index-test.true)
    _ _ _ c.loop-index.invariant c.in_err-put_step.ensures.err)

pub loop-index-preserved : goal.loop-index-preserved
loop-index-preserved g c =
    appends_next step_text (λ number steps. flat_map (λ step. step_text step.0 step.1) (enumerate_from number steps)) (λ n. refl) (λ n x xs. refl) c.args.steps.now c.loop-index.index _ c.loop-index-test.true (get_or_default _ _ _ _ c.loop-index-test.true)
    _ _ _ c.loop-index.invariant c.in_ok-put_step.ensures.ok

pub returns : goal.returns
returns g c = writes_after _ _ _ _ _ _ (rw (take_all c.loop-index.index c.args.steps.now c.loop-index-test.false) at c.loop-index.invariant) c.put_inside.ensures
