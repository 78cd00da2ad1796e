use Rattle.std.proofs.Common.{◌≡◌, Ok, arith, rules}
use Rattle.ya_core.specs.ArbitrationTree.{HasShape}
use Rattle.rt_print.specs.ReplayText.{replay_text_of}
use Rattle.rt_print.proofs.Promised.{replay_text-some}
use Rattle.rt_run.specs.Replayed.{IsReplayText}
use Rattle.rt_run.proofs.Outputs.{has_byte, leaves_replay, is_replay_text}
use Rattle.rt_run.proofs.replays.replay_text.Goals as goal

pub returns-clause-text : goal.returns-clause-text
returns-clause-text g c =
    let replayed : c.replay.result ≡ Ok c.in_ok-steps.steps = grind arith in
    let shaped : (HasShape c.args.levels → ⊥) → ⊥ = λ none. let fault = c.replay.ensures.levels.1 none in cc in
    let tells = rw c.as_slice-steps.ensures.value at c.inside_place-inside.ensures in
    let is : IsReplayText c.args.levels c.args.picks.now (replay_text_of c.as_slice-steps.result.now c.inside_place-inside.result) =
    rw c.as_slice-steps.ensures.value (is_replay_text c.args.levels c.args.picks.now _ c.inside_place-inside.result shaped (rw replayed at c.replay.ensures.steps) tells) in
    leaves_replay _ _ _ _ _ c.write_through.result is c.write_through.ensures.fault
    (c.write_through.ensures.text _ (has_byte _ (replay_text-some _ _)) (λ old written new called. search rules))
