use Rattle.std.proofs.Common.{◌≡◌, take}
use Rattle.ya_core.specs.Steps.{opening}
use Rattle.ya_core.specs.Machines.{state_of, ReplaysTo}
use Rattle.ya_core.proofs.schedule.run.Given as goal

abbrev pub invariant-loop-pick : goal.invariant-loop-pick
invariant-loop-pick l =
    record {
      levels : l.machine.levels ≡ l.fn.shape;
      run : ReplaysTo l.fn.shape opening (take l.pick-index l.picks) l.steps.items (state_of l.machine);
    }
