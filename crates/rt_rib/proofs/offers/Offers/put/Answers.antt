use Rattle.rt_rib.proofs.offers.Offers.put.Goals as goal

pub returns-clause-ok : goal.returns-clause-ok
returns-clause-ok g c = rw (← c.self.view_is) c.put.ensures.ok
