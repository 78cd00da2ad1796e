use Rattle.std.proofs.Common.{[], ◌∷◌}
use Rattle.std.proofs.lemmas.Result.{IfOk-weaker, on_err_weaker}
use Rattle.rt_shared.specs.declared.outcome.Outcome.TheVariants.{Did, Refused}
use Rattle.rt_feed.proofs.GateVisits.{gate_visit}
use Rattle.rt_feed.proofs.gates.TableGateGate.apply.Goals as goal

pub returns-clause-ok : goal.returns-clause-ok
returns-clause-ok g c =
    IfOk-weaker c.apply.result _ _
    (λ reply visit. gate_visit _ c.self.inside.pass c.args.self.now c.apply.new.pass (c.args.cmd ∷ []) (Did reply ∷ []) c.self.view_is
    c.apply.ensures.feed visit)
    c.apply.ensures.ok

pub returns-clause-err : goal.returns-clause-err
returns-clause-err g c =
    on_err_weaker c.apply.result
    (gate_visit _ c.self.inside.pass c.args.self.now c.apply.new.pass (c.args.cmd ∷ []) (Refused ∷ []) c.self.view_is c.apply.ensures.feed)
    c.apply.ensures.err
