use Rattle.ya_core.proofs.Outcomes.{may_step, one_outcome, world_may_step, world_may_append}
use Rattle.ya_core.proofs.laws.freedom.Goals as goal

pub returns-clause-may : goal.returns-clause-may
returns-clause-may g c = may_step

pub returns-clause-one : goal.returns-clause-one
returns-clause-one g c = one_outcome

pub returns-clause-world : goal.returns-clause-world
returns-clause-world g c = λ levels place old room. world_may_step levels place old room

pub returns-clause-append : goal.returns-clause-append
returns-clause-append g c = λ place entry old inside. world_may_append place entry old inside
