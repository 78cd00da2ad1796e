use Rattle.std.proofs.Common.{◌≡◌, ◌≢◌, [], length, refl, ap, arith, append-nil, inr, rules}
use Rattle.std.proofs.lemmas.List.{nil_from_length}
use Rattle.rt_feed.proofs.RunSteps.{answers_one, answers_waiting, refuses_waiting}
use Rattle.rt_feed.proofs.running.FeedRun.ask.Goals as goal
use Rattle.rt_feed.proofs.running.FeedRun.ask.Goals.{then-batch-eq1+then-cmds-eq1+in-Ok, then-batch-eq1+then-cmds-eq1+in_default}
use Rattle.rt_feed.proofs.running.FeedRun.ask.Goals.{else-batch-eq1+then-not-is_empty+in-Ok-apply_batch, else-batch-eq1+then-not-is_empty+in_default-apply_batch}
use Rattle.rt_feed.proofs.running.FeedRun.ask.Goals.{else-batch-eq1+else-not-is_empty}

pub returns-clause-waiting : goal.returns-clause-waiting
returns-clause-waiting g c =
    rw (← c.as_slice-cmds.ensures.value)
    (elim c.if-batch-eq1.branch [
      | then-batch-eq1+then-cmds-eq1+in-Ok w ↦
          rw (w.self-is, w.gate-is)
          (answers_one _ w.index-cmds-0.result w.in-Ok.reply w.if-cmds-eq1.true w.index-cmds-0.is (w.in-Ok.ensures {u = tt}).ok w.fill.ensures)
      | then-batch-eq1+then-cmds-eq1+in_default w ↦
          rw (w.self-is, w.gate-is) (refuses_waiting (λ none. absurd (omega (arith, ap length none, w.if-cmds-eq1.true))) (w.in_default.ensures {u = tt}).err)
      | else-batch-eq1+then-not-is_empty+in-Ok-apply_batch w ↦
          let some : c.as_slice-cmds.result.now ≢ [] = search rules in
          rw (w.self-is, w.gate-is)
          (answers_waiting some (rw w.clear.ensures.items at (w.in-Ok-apply_batch.ensures {u = tt}).ok)
          (rw (← w.as_slice.ensures.value) w.fill-in-Ok-apply_batch.ensures))
      | else-batch-eq1+then-not-is_empty+in_default-apply_batch w ↦
          let some : c.as_slice-cmds.result.now ≢ [] = search rules in
          rw (w.self-is, w.gate-is) (refuses_waiting some (w.in_default-apply_batch.ensures {u = tt}).err.1)
      | else-batch-eq1+else-not-is_empty w ↦
          let none : length c.as_slice-cmds.result.now ≡ 0 = search rules in
          rw (w.self-is, w.gate-is, nil_from_length c.as_slice-cmds.result.now none)
          (record { outcomes = []; each = refl; gained = λ visits held. rw (append-nil visits) held; reported = inr (refl, refl) })
    ])
