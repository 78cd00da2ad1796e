use Rattle.std.proofs.Common.{arith}
use Rattle.rt_run.proofs.parallel.run_on_threads.Goals as goal

pub run_shares-requires-clause-few : goal.run_shares-requires-clause-few
run_shares-requires-clause-few g c κs within = omega (arith, c.max-shares.ensures, c.min.ensures, c.used_texts.ensures, c.count.ensures.few)
