use Rattle.std.proofs.Common.{◌∙◌}
use Rattle.rt_rib.proofs.Promised.{serves_purge}
use Rattle.rt_fib.proofs.fib.Fib.purge.Goals as goal

pub returns-clause-served : goal.returns-clause-served
returns-clause-served g c =
    serves_purge _ _ c.args.feed _ _ _ c.count-count.ensures (c.purge_rest.ensures.limit ∙ c.withdraw_each.ensures.limit)
    (c.purge_rest.ensures.routes ∙ c.withdraw_each.ensures.rest)
