use Rattle.std.proofs.Common.{arith, refl}
use Rattle.rt_run.proofs.Answering.{matches_more}
use Rattle.rt_run.proofs.queries.matches_of.Goals as goal

pub loop-addr-preserved : goal.loop-addr-preserved
loop-addr-preserved c = record {
  found = matches_more c.args.tables.now c.args.addresses.now c.loop-addr.addr-index (record { 0 = 0 }) c.loop-addr.all.items _ _
      c.loop-addr-test.true c.push_reserved.ensures.items refl (c.in_ok-routes.ensures {u = tt}) c.loop-addr.invariant.found;
  counted = omega (arith, c.push_reserved.ensures.len);
  room = omega (arith, c.push_reserved.ensures.capacity);
}
