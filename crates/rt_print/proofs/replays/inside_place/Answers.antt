use Rattle.std.proofs.Common.{take_all}
use Rattle.rt_print.proofs.Replaying.{tells_after}
use Rattle.rt_print.proofs.replays.inside_place.Goals as goal

pub returns : goal.returns
returns c levels picks last some run =
    let steps = c.args.steps.now in
    rw (c.loop-step.invariant, take_all c.loop-step.step-index steps c.loop-step-test.false) (tells_after levels picks steps last some run)
