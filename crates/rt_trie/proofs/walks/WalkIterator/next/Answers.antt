use Rattle.std.proofs.Common.{◌≡◌, suc, ◌-◌, length, sym, ap, ◌∙◌, arith}
use Rattle.std.specs.Option.{option_copied}
use Rattle.rt_trie.proofs.WalkStacks.{GivesWay, IsPassed, walk_at, empty_at, leaf_step}
use Rattle.rt_trie.proofs.walks.WalkIterator.next.Given.{Over}
use Rattle.rt_trie.proofs.walks.WalkIterator.next.Goals.{In-Vacant, After-put_sides}
use Rattle.rt_trie.proofs.walks.WalkIterator.next.Goals as goal

-- an empty link is skipped
empty_step : (g : Over) (c : In-Vacant g) → IsPassed c.loop-self.self-inside.stack c.loop-self.self-inside.len (c.loop-self.self-inside.len - 1)
empty_step g c =
    empty_at c.loop-self.self-inside.stack c.loop-self.self-inside.len c.link_at.result.now c.loop-self.invariant.stack
    (omega (arith, c.loop-self-test.true)) c.link_at.ensures c.in-Vacant.ensures

pub loop-self-preserved-in-Vacant : goal.loop-self-preserved-in-Vacant
loop-self-preserved-in-Vacant g c =
    let s = empty_step g (goal.at.loop-self-preserved-in-Vacant g c).In-Vacant in
    record { stack = s.0; same = s.1 ∙ c.loop-self.invariant.same }

pub loop-self-smaller-in-Vacant : goal.loop-self-smaller-in-Vacant
loop-self-smaller-in-Vacant g c = (empty_step g (goal.at.loop-self-smaller-in-Vacant g c).In-Vacant).2

-- a node on top of the stack is replaced by its sides
branch_step : (g : Over) (c : After-put_sides g)
    → GivesWay c.loop-self.self-inside.stack c.put_sides.new.stack c.loop-self.self-inside.len c.in-Branch.prefix (option_copied c.in-Branch.value)
branch_step g c =
    let b = c.in-Branch in
    let sides = c.put_sides.ensures in
    walk_at c.loop-self.self-inside.stack c.put_sides.new.stack c.loop-self.self-inside.len c.link_at.result.now
    b.left.now b.right.now b.prefix (option_copied b.value)
    c.loop-self.invariant.stack (omega arith) c.link_at.ensures b.ensures.0 sides.right sides.left sides.below sides.size

pub loop-self-preserved : goal.loop-self-preserved
loop-self-preserved g c =
    let s = branch_step g (goal.at.loop-self-preserved g c).After-put_sides in
    record { stack = s.0; same = (rw c.in_default.is at s.1) ∙ c.loop-self.invariant.same }

pub loop-self-smaller : goal.loop-self-smaller
loop-self-smaller g c = (branch_step g (goal.at.loop-self-smaller g c).After-put_sides).2

pub invariant_of-self-in-Some : goal.invariant_of-self-in-Some
invariant_of-self-in-Some g c = (branch_step g (goal.at.invariant_of-self-in-Some g c).After-put_sides).0

pub returns-in-Some-clause-steps : goal.returns-in-Some-clause-steps
returns-in-Some-clause-steps g c =
    let s = branch_step g (goal.at.returns-in-Some-clause-steps g c).After-put_sides in
    sym ((rw c.in-Some.is at s.1) ∙ c.loop-self.invariant.same)

pub returns-in-Some-clause-goes : goal.returns-in-Some-clause-goes
returns-in-Some-clause-goes g c =
    let s = branch_step g (goal.at.returns-in-Some-clause-goes g c).After-put_sides in
    let steps = sym ((rw c.in-Some.is at s.1) ∙ c.loop-self.invariant.same) in
    record { on = λ f. (tt, tt, omega (arith, ap length steps)); keeps = tt; rests = λ f. tt }

pub returns-in-Single-clause-goes : goal.returns-in-Single-clause-goes
returns-in-Single-clause-goes g c =
    let b = c.in-Single in
    let xs = c.loop-self.self-inside.stack in
    let m = c.loop-self.self-inside.len in
    let k = c.loop-self.self-inside.len - 1 in
    let test = c.loop-self-test.true in
    let em : m ≡ suc k = omega arith in
    let e = leaf_step xs m k c.link_at.result.now (b.prefix, b.value.now) em c.link_at.ensures b.ensures in
    record { on = λ f. (tt, tt, omega (arith, ap length (sym c.loop-self.invariant.same ∙ e))); keeps = tt; rests = λ f. tt }
