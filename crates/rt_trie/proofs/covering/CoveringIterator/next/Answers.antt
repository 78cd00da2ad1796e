use Rattle.std.proofs.Common.{◌≡◌, ◌<◌, ◌++◌, length, sym, ap, ◌∙◌, arith}
use Rattle.std.specs.Option.{option_copied}
use Rattle.rt_trie.specs.inside.Lawful.{IsLawfulBelow}
use Rattle.rt_trie.specs.inside.Links.{own_pair, pairs, count, covering_to}
use Rattle.rt_trie.proofs.CoveringPairs.{nodes_below, covering_step, covering_none, covering_single}
use Rattle.rt_trie.proofs.covering.CoveringIterator.next.Given.{Over}
use Rattle.rt_trie.proofs.covering.CoveringIterator.next.Goals.{After-half}
use Rattle.rt_trie.proofs.covering.CoveringIterator.next.Goals.{in_default-view-via-in-Branch+else-covers_to, in_default-view-via-in-Single+else-covers_to-2}
use Rattle.rt_trie.proofs.covering.CoveringIterator.next.Goals.{in_default-view-via-in_default-view}
use Rattle.rt_trie.proofs.covering.CoveringIterator.next.Goals as goal

-- a node that covers the address is replaced by its own pair and the side that the address is on
at_branch : (g : Over) (c : After-half g)
    → IsLawfulBelow c.half.result.now × (own_pair c.in-Branch.prefix (option_copied c.in-Branch.value)
    ++ covering_to c.loop-self.self-inside.most (pairs c.half.result.now) c.loop-self.self-inside.address ≡ c.args.self.now) × (count c.half.result.now < count c.in-Some.link.now)
at_branch g c =
    let i = c.loop-self.invariant in
    let a = c.loop-self.self-inside.address in
    let most = c.loop-self.self-inside.most in
    let lawful : IsLawfulBelow c.in-Some.link.now = rw c.in-Some.is at i.lawful in
    let same : covering_to most (pairs c.in-Some.link.now) a ≡ c.args.self.now = rw c.in-Some.is at i.same in
    let s = covering_step _ _ _ _ _ (c.in-Branch.ensures.0 lawful) most a c.half.result.now (sym c.if-covers_to.ensures)
    c.half.ensures.lower c.half.ensures.upper in
    (s.0, s.1 ∙ same, s.2)

pub returns-in-Some-value-clause-steps : goal.returns-in-Some-value-clause-steps
returns-in-Some-value-clause-steps g c =
    let s = at_branch g (goal.at.returns-in-Some-value-clause-steps g c).After-half in
    sym (rw c.in-Some-value.is at s.1)

pub returns-in-Some-value-clause-goes : goal.returns-in-Some-value-clause-goes
returns-in-Some-value-clause-goes g c =
    let s = at_branch g (goal.at.returns-in-Some-value-clause-goes g c).After-half in
    let steps = sym (rw c.in-Some-value.is at s.1) in
    record { on = λ f. (tt, tt, omega (arith, ap length steps)); keeps = tt; rests = λ f. tt }

pub loop-self-smaller-then-covers_to : goal.loop-self-smaller-then-covers_to
loop-self-smaller-then-covers_to g c =
    let s = at_branch g (goal.at.loop-self-smaller-then-covers_to g c).After-half in
    omega (arith, s.2, ap nodes_below c.in-Some.is)

pub loop-self-preserved-then-covers_to : goal.loop-self-preserved-then-covers_to
loop-self-preserved-then-covers_to g c =
    let s = at_branch g (goal.at.loop-self-preserved-then-covers_to g c).After-half in
    record { lawful = s.0; same = rw c.in_default-value.is at s.1 }

pub loop-self-preserved : goal.loop-self-preserved
loop-self-preserved g c =
    let i = c.loop-self.invariant in
    let a = c.loop-self.self-inside.address in
    let most = c.loop-self.self-inside.most in
    let lawful : IsLawfulBelow c.in-Some.link.now = rw c.in-Some.is at i.lawful in
    let same : covering_to most (pairs c.in-Some.link.now) a ≡ c.args.self.now = rw c.in-Some.is at i.same in
    record {
      lawful = tt;
      same = elim c.in_default-view.branch [
        | in_default-view-via-in-Branch+else-covers_to w ↦ sym (covering_none _ _ _ _ _ (w.in-Branch.ensures.0 lawful) most a (sym w.if-covers_to.ensures)) ∙ same
        | in_default-view-via-in-Single+else-covers_to-2 w ↦
            sym (covering_single c.in-Some.link.now w.in-Single.prefix w.in-Single.value.now most a w.in-Single.ensures (sym w.if-covers_to-2.ensures)) ∙ same
        | in_default-view-via-in_default-view w ↦ sym (ap (λ m. covering_to most m a) w.in_default-view.ensures) ∙ same
      ];
    }
