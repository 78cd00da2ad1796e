use Rattle.rt_rib.proofs.offers.OneOrMany.put.Goals as goal

pub returns-in_ok-both-in-One-clause-ok : goal.returns-in_ok-both-in-One-clause-ok
returns-in_ok-both-in-One-clause-ok g c = rw c.in-One.is c.in_ok-both-in-One.ensures.gained

pub returns-in-Many-clause-ok : goal.returns-in-Many-clause-ok
returns-in-Many-clause-ok g c = rw c.in-Many.is (rw c.deref_mut.ensures.value at c.put_among.ensures.ok)
