use Rattle.rt_rib.proofs.MapRoutes.{IsMap-nil}
use Rattle.rt_rib.proofs.map.OfferMap.new.Goals as goal

pub invariant_of-result : goal.invariant_of-result
invariant_of-result g c = rw c.new.ensures.pairs IsMap-nil
