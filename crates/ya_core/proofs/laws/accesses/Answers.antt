use Rattle.std.proofs.Common.{refl}
use Rattle.ya_core.proofs.Properness.{within_access}
use Rattle.ya_core.proofs.Invariant.{finds}
use Rattle.ya_core.proofs.laws.accesses.Goals as goal

pub returns-clause-word : goal.returns-clause-word
returns-clause-word c =
    λ levels place s some room is. within_access levels place (s.processes place) some room (is.proper place)

pub returns-clause-value : goal.returns-clause-value
returns-clause-value c = λ levels place s is. finds levels place s (s.processes place) is refl
