use Rattle.rt_shared.proofs.UncutVisits.{since_again, entries_since}
use Rattle.rt_shared.proofs.laws.away.Goals as goal

pub returns-clause-again : goal.returns-clause-again
returns-clause-again c = since_again

pub returns-clause-entries : goal.returns-clause-entries
returns-clause-entries c = entries_since
