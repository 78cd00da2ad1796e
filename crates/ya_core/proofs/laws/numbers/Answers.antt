use Rattle.ya_core.proofs.Numbers.{same_number, number_within}
use Rattle.ya_core.proofs.laws.numbers.Goals as goal

pub returns-clause-apart : goal.returns-clause-apart
returns-clause-apart c = same_number

pub returns-clause-within : goal.returns-clause-within
returns-clause-within c = number_within
