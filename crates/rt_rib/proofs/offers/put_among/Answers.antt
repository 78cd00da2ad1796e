use Rattle.rt_rib.proofs.OfferLists.{Contains-insert, IsRanked-insert}
use Rattle.rt_rib.proofs.offers.put_among.Goals as goal

pub returns-clause-ok : goal.returns-clause-ok
returns-clause-ok g c =
    let at = rw c.deref.ensures.value at c.insertion_index-index.ensures in
    rw c.in_ok-insert.ensures.items (λ o. Contains-insert c.args.offers.now.items c.insertion_index-index.result c.args.offer o at.within)

pub returns-clause-ranked : goal.returns-clause-ranked
returns-clause-ranked g c =
    let at = rw c.deref.ensures.value at c.insertion_index-index.ensures in
    rw c.in_ok-insert.ensures.items (IsRanked-insert c.args.offers.now.items c.insertion_index-index.result c.args.offer c.requires.ranked c.requires.fresh at)
