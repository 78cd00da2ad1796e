use Rattle.std.proofs.lemmas.List.Elements.{All-nil}
use Rattle.rt_shared.specs.inside.VisitEntries.{entries_of_visits}
use Rattle.rt_shared.proofs.UncutVisits.{uncut_since, uncut_by_visit}
use Rattle.rt_shared.proofs.laws.visits.Goals as goal

pub returns-clause-first : goal.returns-clause-first
returns-clause-first c = λ feed. All-nil _

pub returns-clause-away : goal.returns-clause-away
returns-clause-away c = uncut_since

pub returns-clause-call : goal.returns-clause-call
returns-clause-call c = uncut_by_visit

pub returns-clause-entries : goal.returns-clause-entries
returns-clause-entries c = entries_of_visits
