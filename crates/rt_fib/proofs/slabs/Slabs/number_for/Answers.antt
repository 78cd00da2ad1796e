use Rattle.rt_fib.proofs.slabs.Slabs.number_for.Goals as goal

pub returns-in-Err-clause-back : goal.returns-in-Err-clause-back
returns-in-Err-clause-back g c = c.roll_back.ensures _ _ _ c.begin-counts.ensures c.number_of.ensures.fills
