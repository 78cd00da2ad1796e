use Rattle.std.proofs.Common.{rules, arith}
use Rattle.std.proofs.lemmas.Grind.{common_steps}
use Rattle.ya_lock.proofs.Ways.{walks_on}
use Rattle.ya_lock.proofs.passage.Passage.release.Goals as goal

pub returns-in-Idle-clause-idle : goal.returns-in-Idle-clause-idle
returns-in-Idle-clause-idle g c = search rules

pub returns-in-Idle-clause-way : goal.returns-in-Idle-clause-way
returns-in-Idle-clause-way g c =
    let start = c.args.self.walk in let first = c.step.new.self.walk in let freed = c.loop-passage.passage.walk in
    walks_on start freed c.let_in.new.self.walk (walks_on start first freed c.step.ensures.way c.loop-passage.invariant.way)
    c.let_in.ensures.way

pub loop-passage-preserved : goal.loop-passage-preserved
loop-passage-preserved g c =
    let start = c.step.new.self.walk in let freed = c.loop-passage.passage.walk in let out = c.let_in.new.self.walk in
    record {
      of = search rules;
      freed = grind (arith, common_steps);
      way = walks_on start out c.step-in-loop-passage.new.self.walk
          (walks_on start freed out c.loop-passage.invariant.way c.let_in.ensures.way) c.step-in-loop-passage.ensures.way;
      least = grind (arith, common_steps);
      count = grind (arith, common_steps);
    }
