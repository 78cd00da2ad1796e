use Rattle.rt_rib.proofs.offers.Offers.take_out.Goals as goal

pub returns-clause-taken : goal.returns-clause-taken
returns-clause-taken g c = rw (← c.self.view_is) c.take_out.ensures.taken
