use Rattle.std.proofs.Common.{◌≡◌, true, false, lit<, sym, ap, ◌∙◌, subst, rules}
use Rattle.ya_core.specs.declared.process.Process.{Process}
use Rattle.ya_core.specs.WalkerModel.{is_waiting}
use Rattle.ya_lock.specs.Lock.{WalksTo}
use Rattle.ya_lock.specs.inside.Lock.{HasLooked, OnWay}
use Rattle.ya_lock.proofs.EntrySteps.{waits_on, has_passed}
use Rattle.ya_lock.proofs.Ways.{walks_on}
use Rattle.ya_lock.proofs.passage.Passage.spin.Given.{Over}
use Rattle.ya_lock.proofs.passage.Passage.spin.Goals as goal
use Rattle.ya_lock.proofs.passage.Passage.spin.Goals.{After-waits-in-loop, then-waits+then-patience-eq0, then-waits+else-patience-eq0, else-waits}

pub look-passage-requires : goal.look-passage-requires
look-passage-requires g c = (lit< tt, ap is_waiting c.loop.invariant.still ∙ c.requires)

pub sleep-passage-requires : goal.sleep-passage-requires
sleep-passage-requires g c = (
  lit< tt,
  ap (λ (p : OnWay g.row.V.Denot). is_waiting p.walk.process) (sym c.passage.view_is) ∙ sym c.if-waits.ensures,
)

pub returns-then-not-waits-clause-passed : goal.returns-then-not-waits-clause-passed
returns-then-not-waits-clause-passed g c =
    let V : Type 0 = g.row.V.Denot in let L = g.row.L in let now = c.if-waits.passage in let still = c.loop.invariant.still in
    let first = c.look-passage.result in
    let looked = subst (λ (p : Process). HasLooked L p first.walk) still c.look-passage.ensures.looked in
    let waits : OnWay V → Type 0 = λ p. is_waiting p.walk.process ≡ true in
    let all : HasLooked L c.args.self.walk.process now.walk =
    elim c.if-waits.branch [
      | then-waits+then-patience-eq0 w ↦
          let same = waits_on L c.args.self.walk.process first.walk
          (subst waits c.passage.view_is (sym w.if-waits.ensures)) looked in
          subst (λ (p : OnWay V). HasLooked L c.args.self.walk.process p.walk) (sym w.passage-is)
          (subst (λ (p : Process). HasLooked L p w.sleep-passage.result.walk) same w.sleep-passage.ensures.looked)
      | then-waits+else-patience-eq0 w ↦
          subst (λ (p : OnWay V). HasLooked L c.args.self.walk.process p.walk) (sym w.passage-is) looked
      | else-waits w ↦
          subst (λ (p : OnWay V). HasLooked L c.args.self.walk.process p.walk) (sym w.passage-is) looked
    ] in
    has_passed L c.args.self.walk.process now.walk c.requires
    (subst (λ (p : OnWay V). is_waiting p.walk.process ≡ false) c.passage-in-loop.view_is (sym c.if-not-waits.ensures)) all

pub returns-then-not-waits-clause-tree : goal.returns-then-not-waits-clause-tree
returns-then-not-waits-clause-tree g c =
    ap (λ (p : OnWay g.row.V.Denot). p.walk.levels) (sym c.passage-in-loop.view_is) ∙ c.passage-in-loop.invariant.tree

-- the way goes on by a look, and perhaps a sleep
way_on : (g : Over) (c : After-waits-in-loop g) → WalksTo c.args.self.walk c.if-waits.passage.walk
way_on g c =
    let start = c.args.self.walk in let first = c.look-passage.result.walk in
    let Way : OnWay g.row.V.Denot → Type 0 = λ p. WalksTo start p.walk in
    let looked = walks_on start c.loop.passage.walk first c.loop.invariant.way c.look-passage.ensures.way in
    elim c.if-waits.branch [
      | then-waits+then-patience-eq0 w ↦
          subst Way (sym w.passage-is) (walks_on start first w.sleep-passage.result.walk looked w.sleep-passage.ensures.way)
      | then-waits+else-patience-eq0 w ↦ subst Way (sym w.passage-is) looked
      | else-waits w ↦ subst Way (sym w.passage-is) looked
    ]

pub returns-then-not-waits-clause-way : goal.returns-then-not-waits-clause-way
returns-then-not-waits-clause-way g c = way_on g (goal.at.returns-then-not-waits-clause-way g c).After-waits-in-loop

pub loop-preserved : goal.loop-preserved
loop-preserved g c = record {
  of = search rules;
  still = search rules;
  way = way_on g (goal.at.loop-preserved g c).After-waits-in-loop;
}
