use Rattle.std.proofs.Common.{◌≡◌, ◌<◌, ◌∷◌, ◌++◌, [], length, take, get_or, ◌∙◌, ap, subst}
use Rattle.std.proofs.lemmas.List.{take_more, take_all}
use Rattle.ya_core.specs.Steps.{opening, StepsTo}
use Rattle.ya_core.specs.Machines.{state_of, step_of, Replays}
use Rattle.ya_core.proofs.Outcomes.{replays_more}
use Rattle.ya_core.proofs.schedule.run.Goals as goal

pub loop-pick-preserved : goal.loop-pick-preserved
loop-pick-preserved c =
    let levels = c.args.shape in
    let picks = c.args.picks.now in
    let pick = c.loop-pick.pick-index in
    let place = get_or picks pick 0 in
    let made = c.loop-pick.steps.items in
    let before = state_of c.loop-pick.machine in
    let after = state_of c.step.new.self in
    let step : StepsTo levels place before after =
    subst (λ n. StepsTo n place before after) c.loop-pick.invariant.levels c.step.ensures.step in
    let told : c.step.result ≡ step_of levels place before =
    c.step.ensures.told ∙ ap (λ n. step_of n place before) c.loop-pick.invariant.levels in
    let steps : c.push.new.self.items ≡ made ++ step_of levels place before ∷ [] =
    c.in_ok-push.ensures.items ∙ ap (λ x. made ++ x ∷ []) told in
    let within : pick < length picks = c.loop-pick-test.true in
    record {
      levels = c.step.ensures.levels ∙ c.loop-pick.invariant.levels;
      run = rw (take_more picks pick 0 within, steps)
          (replays_more levels place opening before after (take pick picks) made c.loop-pick.invariant.run step);
    }

pub returns : goal.returns
returns c =
    let picks = c.args.picks.now in
    let whole : take c.loop-pick.pick-index picks ≡ picks =
    take_all c.loop-pick.pick-index picks (c.loop-pick-test.false) in
    subst (λ xs. Replays c.args.shape opening xs c.loop-pick.steps.items) whole
    (state_of c.loop-pick.machine, c.loop-pick.invariant.run)
