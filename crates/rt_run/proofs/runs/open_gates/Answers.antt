use Rattle.std.proofs.Common.{None, ap}
use Rattle.rt_shared.specs.SharedTable.{HeldPass}
use Rattle.rt_feed.specs.declared.feeds.Feed.{Feed}
use Rattle.rt_run.proofs.Lists.{map_more}
use Rattle.rt_run.proofs.runs.open_gates.Goals as goal

pub loop-pass-preserved : goal.loop-pass-preserved
loop-pass-preserved g c =
    let feed_of : HeldPass → Feed HeldPass = λ p. record { gate = p; report = None } in
    record {
      opened = map_more feed_of c.loop-pass.feeds.items _ c.loop-pass.yielded
          c.in-Some.pass _ c.loop-pass.invariant.opened c.push_reserved.ensures.items (ap feed_of c.new.ensures);
      room = rw c.push_reserved.ensures.capacity c.loop-pass.invariant.room;
    }
