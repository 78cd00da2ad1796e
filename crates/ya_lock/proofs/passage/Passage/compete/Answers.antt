use Rattle.std.proofs.Common.{ℕ, ◌≡◌, ◌≢◌, ◌<◌, ◌≤◌, ◌==◌, arith, true, false, lit<, refl, sym, ap, ◌∙◌, subst, rules, inl}
use Rattle.std.proofs.lemmas.Bool.{false≢true}
use Rattle.ya_core.specs.declared.process.Process.{Process}
use Rattle.ya_core.specs.declared.process.Process.TheVariants.{Entering}
use Rattle.ya_core.specs.declared.process.EntryPoint.TheVariants.{E5, E6, E7, E9}
use Rattle.ya_core.specs.WalkerModel.{Walk, is_waiting}
use Rattle.ya_core.specs.inside.Ahead.{points_ahead}
use Rattle.ya_lock.specs.Lock.{WalksTo}
use Rattle.ya_lock.specs.inside.Lock.{OnWay, WayOf}
use Rattle.ya_lock.proofs.EntrySteps.{plain_entering, found_at, found_entering, leads, lost_e5, lost_e9, comes_nearer, waits_behind}
use Rattle.ya_lock.proofs.EntrySteps.{passed_e8, passed_e10, passed_begun, passed_nearer}
use Rattle.ya_lock.proofs.Ways.{walks_on}
use Rattle.ya_lock.proofs.passage.Passage.compete.Given.{Over}
use Rattle.ya_lock.proofs.passage.Passage.compete.Goals as goal
use Rattle.ya_lock.proofs.passage.Passage.compete.Goals.{After-step-3, in-Entering-default-E7, in-Entering-process-3+in-E1-1, in-Idle-1}

pub step_for-requires : goal.step_for-requires
step_for-requires g c =
    let e7 = c.in-Entering-default-E7 in (
      lit< tt,
      (e7.field-0, inl (found_at (λ point. Entering e7.field-0 point) c.passage-2.view_is e7.ensures.value e7.field-1-is)),
    )

pub write_out-requires : goal.write_out-requires
write_out-requires g c =
    let e5 = c.in-Entering-default-E5 in (lit< tt, found_entering e5.field-0 c.passage.view_is e5.ensures.value e5.field-1-is)

pub step-requires : goal.step-requires
step-requires g c =
    let at = c.write_out.ensures.at in
    (lit< tt, plain_entering c.write_out.new.self.walk at.0 (E5 c.in-Entering-default-E5.rival) at.1 refl)

pub returns-then-has_won-clause-won : goal.returns-then-has_won-clause-won
returns-then-has_won-clause-won g c = c.if-has_won.ensures.0 refl

pub returns-then-has_won-clause-begun : goal.returns-then-has_won-clause-begun
returns-then-has_won-clause-begun g c = ap (λ (w : Walk). w.begun) c.step.ensures.goes.1

pub returns-then-has_won-clause-onward : goal.returns-then-has_won-clause-onward
returns-then-has_won-clause-onward g c =
    let at = c.write_out.ensures.at in
    subst (λ (p : OnWay g.row.V.Denot). points_ahead c.step.new.self.walk < points_ahead p.walk) c.write_out.ensures.same
    (comes_nearer c.write_out.new.self.walk c.step.new.self.walk (ap is_waiting at.1) c.step.ensures.onward)

pub step-requires-2 : goal.step-requires-2
step-requires-2 g c =
    let at = c.write_out.ensures.at in let goes = c.step.ensures.goes in
    let rival = c.in-Entering-default-E5.rival in (
      lit< tt,
      plain_entering c.step.new.self.walk at.0 (E6 rival)
          (lost_e5 c.write_out.new.self.walk c.step.new.self.walk at.0 rival goes.0 at.1 goes.1
          (λ won. false≢true (c.if-has_won.ensures.1 won))) refl,
    )

pub step-requires-3 : goal.step-requires-3
step-requires-3 g c =
    let at = c.write_out-2.ensures.at in (lit< tt, plain_entering c.write_out-2.new.self.walk at.0 E9 at.1 refl)

pub returns-then-has_won-2-clause-won : goal.returns-then-has_won-2-clause-won
returns-then-has_won-2-clause-won g c = c.if-has_won-2.ensures.0 refl

pub returns-then-has_won-2-clause-begun : goal.returns-then-has_won-2-clause-begun
returns-then-has_won-2-clause-begun g c = ap (λ (w : Walk). w.begun) c.step-3.ensures.goes.1

pub write_out-requires-2 : goal.write_out-requires-2
write_out-requires-2 g c =
    let p = c.match-process-3.passage in let at = c.write_out.ensures.at in let goes = c.step.ensures.goes in
    let rival = c.in-Entering-default-E5.rival in let on = c.step-2.ensures.goes in
    let lost = lost_e5 c.write_out.new.self.walk c.step.new.self.walk at.0 rival goes.0 at.1 goes.1
    (λ won. false≢true (c.if-has_won.ensures.1 won)) in
    let e6 = leads c.step.new.self.walk c.step-2.new.self.walk at.0 on.0 (E6 rival) lost on.1 in
    let process : OnWay g.row.V.Denot → Process = λ q. q.walk.process in
    let passed = c.spin-passage.ensures.passed in let after = c.spin-passage.result.walk in
    let unwoken : p ≡ c.step-2.new.self → after.process ≡ Entering at.0 E9 =
    λ is. passed_e8 (on.0 == 0) g.row.L at.0 rival p.walk.process after (ap process is ∙ e6) passed in
    let e9 : (l : ℕ) × (after.process ≡ Entering l E9) =
    elim c.match-process-3.branch [
      | in-Entering-default-E7 w ↦
          let e7 = w.in-Entering-default-E7 in let wakes = w.step_for in let told = wakes.ensures.goes in
          let is = found_at (λ point. Entering e7.field-0 point) c.passage-2.view_is e7.ensures.value e7.field-1-is in
          let e8 = leads c.step-2.new.self.walk wakes.new.self.walk e7.field-0 told.0 (E7 e7.rival) is told.1 in
          (e7.field-0, passed_e8 false g.row.L e7.field-0 0 p.walk.process after (ap process w.passage-is ∙ e8) passed)
      | in-Entering-process-3+in-E1-1 w ↦ (at.0, unwoken w.passage-is)
      | in-Idle-1 w ↦ (at.0, unwoken w.passage-is)
    ] in (lit< tt, e9)

pub spin-requires : goal.spin-requires
spin-requires g c =
    let at = c.write_out-2.ensures.at in let goes = c.step-3.ensures.goes in (
      lit< tt,
      ap is_waiting (lost_e9 c.write_out-2.new.self.walk c.step-3.new.self.walk at.0 goes.0 at.1 goes.1
          (λ won. false≢true (c.if-has_won-2.ensures.1 won))),
    )

pub returns-clause-won : goal.returns-clause-won
returns-clause-won g c =
    let passed = c.spin.ensures.passed in let at = c.write_out-2.ensures.at in let goes = c.step-3.ensures.goes in
    passed_e10 g.row.L at.0 c.step-3.new.self.walk.process _
    (lost_e9 c.write_out-2.new.self.walk c.step-3.new.self.walk at.0 goes.0 at.1 goes.1
    (λ won. false≢true (c.if-has_won-2.ensures.1 won))) passed

pub returns-then-has_won-clause-of : goal.returns-then-has_won-clause-of
returns-then-has_won-clause-of g c = c.step.ensures.of ∙ ap (λ (q : OnWay g.row.V.Denot). q.of) c.write_out.ensures.same

pub returns-clause-begun : goal.returns-clause-begun
returns-clause-begun g c =
    let at = c.write_out-2.ensures.at in let goes = c.step-3.ensures.goes in
    passed_begun g.row.L at.0 c.step-3.new.self.walk.process c.spin.result.walk
    (lost_e9 c.write_out-2.new.self.walk c.step-3.new.self.walk at.0 goes.0 at.1 goes.1
    (λ won. false≢true (c.if-has_won-2.ensures.1 won))) c.spin.ensures.passed

-- past e9 it is the same passage
past_e9_of : (g : Over) (c : After-step-3 g) → c.step-3.new.self.of ≡ c.args.self.of
past_e9_of g c =
    let V : Type 0 = g.row.V.Denot in let of : OnWay V → WayOf V = λ q. q.of in let p = c.match-process-3.passage in
    let on = c.step-2.ensures.of ∙ (c.step.ensures.of ∙ ap of c.write_out.ensures.same) in
    let met : p.of ≡ c.args.self.of =
    elim c.match-process-3.branch [
      | in-Entering-default-E7 w ↦ ap of w.passage-is ∙ (w.step_for.ensures.of ∙ on)
      | in-Entering-process-3+in-E1-1 w ↦ ap of w.passage-is ∙ on
      | in-Idle-1 w ↦ ap of w.passage-is ∙ on
    ] in c.step-3.ensures.of ∙ (ap of c.write_out-2.ensures.same ∙ (c.spin-passage.ensures.of ∙ met))

pub returns-then-has_won-2-clause-of : goal.returns-then-has_won-2-clause-of
returns-then-has_won-2-clause-of g c = past_e9_of g (goal.at.returns-then-has_won-2-clause-of g c).After-step-3

pub returns-clause-of : goal.returns-clause-of
returns-clause-of g c = c.spin.ensures.of ∙ past_e9_of g (goal.at.returns-clause-of g c).After-step-3

-- and nearer to the critical section
past_e9_onward : (g : Over) (c : After-step-3 g) → points_ahead c.step-3.new.self.walk < points_ahead c.args.self.walk
past_e9_onward g c =
    let V : Type 0 = g.row.V.Denot in let p = c.match-process-3.passage in
    let ahead : OnWay V → ℕ = λ q. points_ahead q.walk in let levels : OnWay V → ℕ = λ q. q.walk.levels in
    let at = c.write_out.ensures.at in let goes = c.step.ensures.goes in let rival = c.in-Entering-default-E5.rival in
    let first = c.step.new.self in let second = c.step-2.new.self in let third = c.step-3.new.self in
    let e5 = comes_nearer c.write_out.new.self.walk first.walk (ap is_waiting at.1) c.step.ensures.onward in
    let lost = lost_e5 c.write_out.new.self.walk first.walk at.0 rival goes.0 at.1 goes.1
    (λ won. false≢true (c.if-has_won.ensures.1 won)) in
    let e6 = comes_nearer first.walk second.walk (ap is_waiting lost) c.step-2.ensures.onward in
    let tree = ap levels (sym c.passage-2.view_is) ∙ c.passage-2.invariant.tree in
    let within : OnWay V → Type 0 = λ q. points_ahead q.walk ≤ points_ahead second.walk in
    let here : points_ahead second.walk ≤ points_ahead second.walk = omega arith in
    let met : (points_ahead p.walk ≤ points_ahead second.walk) × (p.walk.levels ≡ g.row.L) =
    elim c.match-process-3.branch [
      | in-Entering-default-E7 w ↦
          let e7 = w.in-Entering-default-E7 in let wakes = w.step_for in
          let is = found_at (λ point. Entering e7.field-0 point) c.passage-2.view_is e7.ensures.value e7.field-1-is in
          let near = comes_nearer second.walk wakes.new.self.walk (ap is_waiting is) wakes.ensures.onward in
          let same = w.passage-is in
          let below : points_ahead wakes.new.self.walk ≤ points_ahead second.walk = omega (arith, near) in (
            subst within (sym same) below,
            ap levels same ∙ (ap (λ (v : Walk). v.levels) wakes.ensures.goes.1 ∙ tree),
          )
      | in-Entering-process-3+in-E1-1 w ↦ (subst within (sym w.passage-is) here, ap levels w.passage-is ∙ tree)
      | in-Idle-1 w ↦ (subst within (sym w.passage-is) here, ap levels w.passage-is ∙ tree)
    ] in
    let e8 = passed_nearer g.row.L p.walk c.spin-passage.result.walk met.1 c.spin-passage.ensures.tree c.spin-passage.ensures.passed in
    let e9 = comes_nearer c.write_out-2.new.self.walk third.walk (ap is_waiting c.write_out-2.ensures.at.1) c.step-3.ensures.onward in
    let start = ap ahead c.write_out.ensures.same in let between = ap ahead c.write_out-2.ensures.same in
    omega (arith, e5, e6, met.0, e8, e9, start, between)

pub returns-then-has_won-2-clause-onward : goal.returns-then-has_won-2-clause-onward
returns-then-has_won-2-clause-onward g c = past_e9_onward g (goal.at.returns-then-has_won-2-clause-onward g c).After-step-3

pub returns-clause-onward : goal.returns-clause-onward
returns-clause-onward g c =
    let levels : OnWay g.row.V.Denot → ℕ = λ q. q.walk.levels in let third = c.step-3.new.self in
    let e9 = past_e9_onward g (goal.at.returns-clause-onward g c).After-step-3 in
    let e10 = passed_nearer g.row.L third.walk c.spin.result.walk (ap (λ (v : Walk). v.levels) c.step-3.ensures.goes.1
    ∙ (ap levels c.write_out-2.ensures.same ∙ c.spin-passage.ensures.tree)) c.spin.ensures.tree c.spin.ensures.passed in
    omega (arith, e9, e10)

pub spin-passage-requires : goal.spin-passage-requires
spin-passage-requires g c =
    let p = c.match-process-3.passage in let second = c.step-2.new.self.walk in
    let process : OnWay g.row.V.Denot → Process = λ q. q.walk.process in
    let at = c.write_out.ensures.at in let goes = c.step.ensures.goes in let on = c.step-2.ensures.goes in
    let rival = c.in-Entering-default-E5.rival in
    let lost = lost_e5 c.write_out.new.self.walk c.step.new.self.walk at.0 rival goes.0 at.1 goes.1
    (λ won. false≢true (c.if-has_won.ensures.1 won)) in
    let e6 = leads c.step.new.self.walk second at.0 on.0 (E6 rival) lost on.1 in
    let found : c.process-2.result ≡ second.process = c.process-2.ensures.value ∙ ap process c.passage-2.view_is in
    let unwoken : p ≡ c.step-2.new.self → (c.process-2.result ≢ Entering at.0 (E7 rival)) → is_waiting p.walk.process ≡ true =
    λ is apart. ap (λ (q : OnWay g.row.V.Denot). is_waiting q.walk.process) is
    ∙ waits_behind (on.0 == 0) at.0 rival second.process e6 (λ e. apart (found ∙ e)) in
    let waits : is_waiting p.walk.process ≡ true =
    elim c.match-process-3.branch [
      | in-Entering-default-E7 w ↦
          let e7 = w.in-Entering-default-E7 in let wakes = w.step_for in let told = wakes.ensures.goes in
          let is = found_at (λ point. Entering e7.field-0 point) c.passage-2.view_is e7.ensures.value e7.field-1-is in
          let e8 = leads second wakes.new.self.walk e7.field-0 told.0 (E7 e7.rival) is told.1 in
          ap is_waiting (ap process w.passage-is ∙ e8)
      | in-Entering-process-3+in-E1-1 w ↦ unwoken w.passage-is (λ e. search rules)
      | in-Idle-1 w ↦ unwoken w.passage-is (λ e. search rules)
    ] in (lit< tt, waits)

-- and the walk leads there
past_e9_way : (g : Over) (c : After-step-3 g) → WalksTo c.args.self.walk c.step-3.new.self.walk
past_e9_way g c =
    let V : Type 0 = g.row.V.Denot in let start = c.args.self.walk in let p = c.match-process-3.passage in
    let first = c.step.new.self.walk in let second = c.step-2.new.self.walk in let third = c.step-3.new.self.walk in
    let over = c.spin-passage.result.walk in
    let From : OnWay V → Type 0 = λ q. WalksTo q.walk first in let To : OnWay V → Type 0 = λ q. WalksTo start q.walk in
    let Last : OnWay V → Type 0 = λ q. WalksTo q.walk third in
    let e6 = walks_on start first second (subst From c.write_out.ensures.same c.step.ensures.way) c.step-2.ensures.way in
    let met : To p =
    elim c.match-process-3.branch [
      | in-Entering-default-E7 w ↦
          subst To (sym w.passage-is) (walks_on start second w.step_for.new.self.walk e6 w.step_for.ensures.way)
      | in-Entering-process-3+in-E1-1 w ↦ subst To (sym w.passage-is) e6
      | in-Idle-1 w ↦ subst To (sym w.passage-is) e6
    ] in
    walks_on start over third (walks_on start p.walk over met c.spin-passage.ensures.way)
    (subst Last c.write_out-2.ensures.same c.step-3.ensures.way)

pub returns-then-has_won-2-clause-way : goal.returns-then-has_won-2-clause-way
returns-then-has_won-2-clause-way g c = past_e9_way g (goal.at.returns-then-has_won-2-clause-way g c).After-step-3

pub returns-clause-way : goal.returns-clause-way
returns-clause-way g c =
    walks_on c.args.self.walk c.step-3.new.self.walk c.spin.result.walk
    (past_e9_way g (goal.at.returns-clause-way g c).After-step-3) c.spin.ensures.way
