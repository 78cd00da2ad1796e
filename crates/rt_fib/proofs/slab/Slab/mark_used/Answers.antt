use Rattle.std.proofs.Common.{arith}
use Rattle.std.proofs.lemmas.List.{get_or_read}
use Rattle.rt_fib.proofs.Placing.{mark_fills}
use Rattle.rt_fib.proofs.slab.Slab.mark_used.Goals as goal

pub returns-clause-fills : goal.returns-clause-fills
returns-clause-fills g c = rw (← c.self.view_is)
    (λ used. mark_fills _ c.args.n _ _ (omega arith) used
    (omega (arith, get_or_read c.self.inside.epochs.items c.args.n c.index.result.now (omega arith) c.index.ensures 0)))
