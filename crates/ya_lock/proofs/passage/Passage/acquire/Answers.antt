use Rattle.std.proofs.Common.{◌≡◌, Bool, false, lit<, refl, sym, ap, ◌∙◌, rules, subst, inr}
use Rattle.ya_core.specs.declared.process.Process.TheVariants.{Entering, Inside}
use Rattle.ya_core.specs.declared.process.EntryPoint.TheVariants.{E2, E3, E4}
use Rattle.ya_core.specs.WalkerModel.{Walk}
use Rattle.ya_lock.specs.Lock.{WalksTo}
use Rattle.ya_lock.specs.inside.Lock.{HasWon, OnWay}
use Rattle.ya_lock.proofs.EntryAccesses.{at_next}
use Rattle.ya_lock.proofs.EntrySteps.{plain_entering, plain_at_foot, from_foot, leads, rests_inside}
use Rattle.ya_lock.proofs.Ways.{walks_on}
use Rattle.ya_lock.proofs.passage.Passage.acquire.Given.{Over}
use Rattle.ya_lock.proofs.passage.Passage.acquire.Goals as goal
use Rattle.ya_lock.proofs.passage.Passage.acquire.Goals.{After-process, then-not-has_won, else-not-has_won}

pub write_out-requires : goal.write_out-requires
write_out-requires g c =
    let p = c.if-not-has_won.passage in
    let won : HasWon p.walk.process =
    elim c.if-not-has_won.branch [
      | then-not-has_won w ↦ subst (λ (q : OnWay g.row.V.Denot). HasWon q.walk.process) (sym w.passage-is) w.compete-passage.ensures.won
      | else-not-has_won w ↦ search rules
    ] in (
      lit< tt,
      at_next p.walk.process won (λ e. c.in_default.not-Inside (c.process.ensures.value
          ∙ (ap (λ (q : OnWay g.row.V.Denot). q.walk.process) c.passage-in-loop-passage.view_is ∙ e))),
    )

pub step-requires : goal.step-requires
step-requires g c = (lit< tt, plain_at_foot c.loop-passage.passage.walk c.loop-passage.invariant.foot)

pub step-requires-in-loop-passage : goal.step-requires-in-loop-passage
step-requires-in-loop-passage g c =
    let goes = c.step.ensures.goes in
    let e2 = from_foot c.loop-passage.passage.walk c.step.new.self.walk goes.0 c.loop-passage.invariant.foot goes.1 in
    (lit< tt, plain_entering c.step.new.self.walk e2.0 E2 e2.1 refl)

pub step-requires-in-loop-passage-2 : goal.step-requires-in-loop-passage-2
step-requires-in-loop-passage-2 g c =
    let goes = c.step.ensures.goes in let on = c.step-in-loop-passage.ensures.goes in
    let second = c.step-in-loop-passage.new.self.walk in
    let e2 = from_foot c.loop-passage.passage.walk c.step.new.self.walk goes.0 c.loop-passage.invariant.foot goes.1 in
    (lit< tt, plain_entering second e2.0 E3 (leads c.step.new.self.walk second e2.0 on.0 E2 e2.1 on.1) refl)

pub step-requires-in-loop-passage-3 : goal.step-requires-in-loop-passage-3
step-requires-in-loop-passage-3 g c =
    let goes = c.step.ensures.goes in let on = c.step-in-loop-passage.ensures.goes in
    let last = c.step-in-loop-passage-2.ensures.goes in
    let second = c.step-in-loop-passage.new.self.walk in let third = c.step-in-loop-passage-2.new.self.walk in
    let e2 = from_foot c.loop-passage.passage.walk c.step.new.self.walk goes.0 c.loop-passage.invariant.foot goes.1 in
    let e3 : second.process ≡ Entering e2.0 E3 = leads c.step.new.self.walk second e2.0 on.0 E2 e2.1 on.1 in
    (lit< tt, plain_entering third e2.0 E4 (leads second third e2.0 last.0 E3 e3 last.1) refl)

pub returns-in-Inside-clause-inside : goal.returns-in-Inside-clause-inside
returns-in-Inside-clause-inside g c =
    let V : Type 0 = g.row.V.Denot in let p = c.if-not-has_won.passage in
    let begun : OnWay V → Bool = λ q. q.walk.begun in
    let going : p.walk.begun ≡ false =
    elim c.if-not-has_won.branch [
      | then-not-has_won w ↦ ap begun w.passage-is ∙ w.compete-passage.ensures.begun
      | else-not-has_won w ↦ ap begun w.passage-is ∙ ap (λ (v : Walk). v.begun) c.step-in-loop-passage-3.ensures.goes.1
    ] in
    let inside : c.process.result ≡ Inside = search in
    let at = ap (λ (q : OnWay V). q.walk.process) (sym c.passage-in-loop-passage.view_is) in
    rests_inside p.walk (at ∙ (sym c.process.ensures.value ∙ inside)) going

-- the walk leads to where the level is won
won_way : (g : Over) (c : After-process g) → WalksTo c.write_begun.new.self.walk c.if-not-has_won.passage.walk
won_way g c =
    let start = c.write_begun.new.self.walk in let foot = c.loop-passage.passage.walk in let e2 = c.step.new.self.walk in
    let e3 = c.step-in-loop-passage.new.self.walk in let e4 = c.step-in-loop-passage-2.new.self.walk in
    let seen = c.step-in-loop-passage-3.new.self.walk in
    let Way : OnWay g.row.V.Denot → Type 0 = λ p. WalksTo start p.walk in
    let at_e2 = walks_on start foot e2 c.loop-passage.invariant.way c.step.ensures.way in
    let at_e3 = walks_on start e2 e3 at_e2 c.step-in-loop-passage.ensures.way in
    let at_e4 = walks_on start e3 e4 at_e3 c.step-in-loop-passage-2.ensures.way in
    let looked = walks_on start e4 seen at_e4 c.step-in-loop-passage-3.ensures.way in
    elim c.if-not-has_won.branch [
      | then-not-has_won w ↦
          subst Way (sym w.passage-is) (walks_on start seen w.compete-passage.result.walk looked w.compete-passage.ensures.way)
      | else-not-has_won w ↦ subst Way (sym w.passage-is) looked
    ]

pub returns-in-Inside-clause-way : goal.returns-in-Inside-clause-way
returns-in-Inside-clause-way g c =
    subst (λ (p : OnWay g.row.V.Denot). WalksTo p.walk c.if-not-has_won.passage.walk) c.write_begun.ensures.same
    (won_way g (goal.at.returns-in-Inside-clause-way g c).After-process)

pub loop-passage-preserved : goal.loop-passage-preserved
loop-passage-preserved g c = record {
  of = search rules;
  foot = inr c.write_out.ensures.at;
  way = subst (λ (p : OnWay g.row.V.Denot). WalksTo c.write_begun.new.self.walk p.walk) (sym c.write_out.ensures.same)
      (won_way g (goal.at.loop-passage-preserved g c).After-process);
}
