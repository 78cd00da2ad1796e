use Rattle.std.proofs.Common.{arith}
use Rattle.rt_run.proofs.Dealt.{split_more}
use Rattle.rt_run.proofs.parallel.split_runs.Goals as goal

pub loop-run-preserved : goal.loop-run-preserved
loop-run-preserved c =
    let so_far = c.loop-run.invariant in
    record {
      split = split_more c.loop-run.yielded c.in-Some.run' c.loop-run.tables.items c.push_reserved.new.self.items c.loop-run.told.items
          c.push_reserved-in-loop-run.new.self.items c.loop-run.parts.items c.push_reserved-in-loop-run-2.new.self.items
          c.in_ok-table.table c.in_ok-table.tallies c.in_ok-table.part so_far.split (c.in_ok-table.was {u = tt})
          c.push_reserved.ensures.items c.push_reserved-in-loop-run.ensures.items c.push_reserved-in-loop-run-2.ensures.items;
      room = omega (arith, so_far.room, c.push_reserved.ensures.capacity);
      tally_room = omega (arith, so_far.tally_room, c.push_reserved-in-loop-run.ensures.capacity);
      part_room = omega (arith, so_far.part_room, c.push_reserved-in-loop-run-2.ensures.capacity);
    }
