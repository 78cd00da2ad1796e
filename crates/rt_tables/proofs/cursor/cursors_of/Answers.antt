use Rattle.std.proofs.Common.{◌∙◌, arith}
use Rattle.rt_tables.proofs.Ranges.{cursors_more}
use Rattle.rt_tables.proofs.cursor.cursors_of.Goals as goal

pub loop-table-preserved : goal.loop-table-preserved
loop-table-preserved g c =
    let so_far = c.loop-table.invariant in
    record {
      each = cursors_more c.args.tables.now c.loop-table.table-index c.table-item.result c.loop-table.cursors.items c.push_reserved.new.self.items c.new.result
          c.loop-table-test.true c.table-item.is so_far.each c.push_reserved.ensures.items (c.new.ensures ∙ c.lookup_cursor.ensures);
      counted = omega (arith, c.push_reserved.ensures.len, so_far.counted);
      room = omega (arith, c.push_reserved.ensures.capacity, so_far.room);
    }
