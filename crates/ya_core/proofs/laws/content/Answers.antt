use Rattle.ya_core.specs.Worlds.{any_entry, opening_world}
use Rattle.ya_core.proofs.Invariant.{excludes}
use Rattle.ya_core.proofs.Content.{kept, any_run, steps_lead}
use Rattle.ya_core.proofs.laws.content.Goals as goal

pub returns-clause-state : goal.returns-clause-state
returns-clause-state g c = λ levels events world run. steps_lead levels any_entry events opening_world world run

pub returns-clause-exclusion : goal.returns-clause-exclusion
returns-clause-exclusion g c = λ levels events world some run p q.
    excludes levels p q world.state some (kept levels any_entry some events world run).sound

pub returns-clause-kept : goal.returns-clause-kept
returns-clause-kept g c = λ levels events world some run. (kept levels any_entry some events world run).made

pub returns-clause-any : goal.returns-clause-any
returns-clause-any g c = λ levels events world run. any_run levels g.K.Accept.ok events opening_world world run

pub returns-clause-lawful : goal.returns-clause-lawful
returns-clause-lawful g c = λ levels events world some run. (kept levels g.K.Accept.ok some events world run).lawful
