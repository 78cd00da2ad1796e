use Rattle.std.proofs.Common.{rules}
use Rattle.ya_core.specs.Steps.{opening}
use Rattle.ya_core.specs.Machines.{Replays}
use Rattle.ya_core.proofs.Outcomes.{one_replay}
use Rattle.ya_core.proofs.schedule.replay.Goals as goal

pub returns-in-Ok-clause-one : goal.returns-in-Ok-clause-one
returns-in-Ok-clause-one c =
    let made : Replays c.args.levels opening c.args.picks.now c.in-Ok.steps.items = search rules in
    λ other run. one_replay c.args.levels c.args.picks.now opening made.0 run.0 c.in-Ok.steps.items other made.1 run.1

pub run-requires : goal.run-requires
run-requires c = search rules

pub returns-in_err-shape-clause-levels : goal.returns-in_err-shape-clause-levels
returns-in_err-shape-clause-levels c = search rules

pub returns-in_err-shape-clause-place : goal.returns-in_err-shape-clause-place
returns-in_err-shape-clause-place c = search rules

pub returns-in-Ok-clause-place : goal.returns-in-Ok-clause-place
returns-in-Ok-clause-place c = search rules

pub returns-in-Err-clause-place : goal.returns-in-Err-clause-place
returns-in-Err-clause-place c = search rules
