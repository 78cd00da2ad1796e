use Rattle.ya_core.proofs.Counting.{told_on}
use Rattle.ya_core.proofs.walker.Walker.go_on.Goals as goal

pub invariant_of-self : goal.invariant_of-self
invariant_of-self c = (told_on c.args.value _ _ (cc) (cc) c.self.view_is c.self.invariant c.requires).0

pub returns-clause-onward : goal.returns-clause-onward
returns-clause-onward c =
    (told_on c.args.value c.next-self-inside.result c.cost.result (cc) (cc) c.self.view_is c.self.invariant c.requires).1
