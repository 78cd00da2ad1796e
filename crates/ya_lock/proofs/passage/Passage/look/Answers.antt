use Rattle.std.proofs.Common.{◌≡◌, ℕ, true, lit<, refl, sym, ap, ◌∙◌, subst}
use Rattle.ya_core.specs.declared.process.Process.{Process}
use Rattle.ya_core.specs.declared.process.EntryPoint.TheVariants.{E8, E10}
use Rattle.ya_core.specs.WalkerModel.{Walk, is_waiting}
use Rattle.ya_lock.specs.inside.Lock.{HasLooked, OnWay, WayOf}
use Rattle.ya_lock.proofs.EntrySteps.{plain_entering, found_entering, looked_e8, looked_e10, looks_vain}
use Rattle.ya_lock.proofs.passage.Passage.look.Goals as goal
use Rattle.ya_lock.proofs.passage.Passage.look.Goals.{in-Entering-default-E8, in-Entering-default-E10}

pub write_out-requires : goal.write_out-requires
write_out-requires g c =
    let e8 = c.in-Entering-default-E8 in (lit< tt, found_entering e8.field-0 c.passage.view_is e8.ensures.value e8.field-1-is)

pub step-requires : goal.step-requires
step-requires g c =
    let process : OnWay g.row.V.Denot → Process = λ p. p.walk.process in
    let old = c.match-process-2.passage.walk in (
      lit< tt,
      elim c.match-process-2.branch [
        | in-Entering-default-E8 w ↦
            let at = w.write_out.ensures.at in plain_entering old at.0 E8 (ap process w.passage-is ∙ at.1) refl
        | in-Entering-default-E10 w ↦
            let at = w.write_out-in-Entering-default-E10.ensures.at in
            plain_entering old at.0 E10 (ap process w.passage-is ∙ at.1) refl
      ],
    )

pub returns-clause-of : goal.returns-clause-of
returns-clause-of g c =
    let V : Type 0 = g.row.V.Denot in let of : OnWay V → WayOf V = λ p. p.of in
    c.step.ensures.of ∙ elim c.match-process-2.branch [
      | in-Entering-default-E8 w ↦ ap of (w.passage-is ∙ w.write_out.ensures.same)
      | in-Entering-default-E10 w ↦ ap of (w.passage-is ∙ w.write_out-in-Entering-default-E10.ensures.same)
    ]

pub returns-clause-looked : goal.returns-clause-looked
returns-clause-looked g c =
    let V : Type 0 = g.row.V.Denot in let process : OnWay V → Process = λ p. p.walk.process in
    let levels : OnWay V → ℕ = λ p. p.walk.levels in
    let goes = c.step.ensures.goes in let old = c.match-process-2.passage.walk in let new = c.step.new.self.walk in
    let Looked : OnWay V → Type 0 = λ p. HasLooked g.row.L p.walk.process new in
    elim c.match-process-2.branch [
      | in-Entering-default-E8 w ↦
          let at = w.write_out.ensures.at in
          subst Looked (w.passage-is ∙ w.write_out.ensures.same)
          (looked_e8 g.row.L at.0 goes.0 old new (ap process w.passage-is ∙ at.1) goes.1)
      | in-Entering-default-E10 w ↦
          let at = w.write_out-in-Entering-default-E10.ensures.at in
          let same = w.passage-is ∙ w.write_out-in-Entering-default-E10.ensures.same in
          subst Looked same (looked_e10 g.row.L at.0 goes.0 old new
          (ap levels (same ∙ sym c.passage.view_is) ∙ c.passage.invariant.tree) (ap process w.passage-is ∙ at.1) goes.1)
    ]

pub returns-clause-vain : goal.returns-clause-vain
returns-clause-vain g c = λ waits.
    let process : OnWay g.row.V.Denot → Process = λ p. p.walk.process in
    let goes = c.step.ensures.goes in let old = c.match-process-2.passage.walk in
    let waited : is_waiting old.process ≡ true =
    elim c.match-process-2.branch [
      | in-Entering-default-E8 w ↦ ap is_waiting (ap process w.passage-is ∙ w.write_out.ensures.at.1)
      | in-Entering-default-E10 w ↦
          ap is_waiting (ap process w.passage-is ∙ w.write_out-in-Entering-default-E10.ensures.at.1)
    ] in
    goes.2 ∙ looks_vain old.levels old.place goes.0 old.process waited
    (ap (λ (w : Walk). is_waiting w.process) (sym goes.1) ∙ waits)
