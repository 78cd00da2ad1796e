use Rattle.rt_rib.proofs.offers.OneOrMany.replace.Goals as goal

pub returns-in-Many-clause-swapped : goal.returns-in-Many-clause-swapped
returns-in-Many-clause-swapped g c = rw c.in-Many.is (rw c.deref_mut.ensures.value at c.replace_among.ensures.swapped)
