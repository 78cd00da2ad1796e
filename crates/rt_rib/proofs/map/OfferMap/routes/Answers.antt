use Rattle.rt_rib.proofs.map.OfferMap.routes.Goals as goal

pub returns : goal.returns
returns g c = rw (← c.self.view_is) (rw c.walk.ensures.pairs at c.routes.ensures)
