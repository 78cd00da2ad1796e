use Rattle.ya_core.proofs.Schedules.{enters, leaves, run_of, one_run, some_fair}
use Rattle.ya_core.proofs.laws.starvation_freedom.Goals as goal

pub returns-clause-inside : goal.returns-clause-inside
returns-clause-inside c = enters

pub returns-clause-idle : goal.returns-clause-idle
returns-clause-idle c = leaves

pub returns-clause-run : goal.returns-clause-run
returns-clause-run c = run_of

pub returns-clause-one : goal.returns-clause-one
returns-clause-one c = one_run

pub returns-clause-fair : goal.returns-clause-fair
returns-clause-fair c = some_fair
