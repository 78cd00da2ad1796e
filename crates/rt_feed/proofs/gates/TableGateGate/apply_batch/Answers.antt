use Rattle.std.proofs.lemmas.Result.{on_ok_weaker, on_err_weaker}
use Rattle.rt_feed.proofs.GateVisits.{gate_visit, gate_empty}
use Rattle.rt_feed.proofs.gates.TableGateGate.apply_batch.Goals as goal

pub returns-clause-ok : goal.returns-clause-ok
returns-clause-ok g c =
    on_ok_weaker c.apply_batch.result (λ served. record {
      outcomes = served.outcomes;
      each = served.visit.each;
      appended = served.appended;
      gained = gate_visit _ c.self.inside.pass c.args.self.now c.apply_batch.new.pass c.args.cmds.now served.outcomes c.self.view_is
          c.apply_batch.ensures.feed served.visit;
    }) c.apply_batch.ensures.ok

pub returns-clause-err : goal.returns-clause-err
returns-clause-err g c =
    on_err_weaker c.apply_batch.result
    (λ refused. (refused.1, gate_empty c.self.inside.pass c.args.self.now c.apply_batch.new.pass c.self.view_is refused.0)) c.apply_batch.ensures.err
