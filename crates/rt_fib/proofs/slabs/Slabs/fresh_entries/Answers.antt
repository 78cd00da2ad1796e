use Rattle.rt_fib.proofs.slabs.Slabs.fresh_entries.Goals as goal

pub returns-in-Err-clause-back : goal.returns-in-Err-clause-back
returns-in-Err-clause-back g c = c.roll_back.ensures _ _ _ c.begin-counts.ensures c.entries.ensures.goes.fills
