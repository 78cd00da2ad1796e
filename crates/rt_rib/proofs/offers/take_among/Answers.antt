use Rattle.std.proofs.Common.{sym}
use Rattle.rt_rib.specs.Maps.{is_from}
use Rattle.rt_rib.proofs.OfferLists.{position-none, position-some, IsRanked-remove, remove_is_without}
use Rattle.rt_rib.proofs.offers.take_among.Goals as goal

pub returns-in_default-clause-had : goal.returns-in_default-clause-had
returns-in_default-clause-had g c =
    let found = rw c.deref.ensures.value at c.in_default.ensures in
    sym (position-none (is_from c.args.feed) c.args.offers.now.items (sym found))

pub returns-clause-had : goal.returns-clause-had
returns-clause-had g c =
    let found = rw c.deref.ensures.value at c.in-Some.ensures in
    let at = position-some (is_from c.args.feed) c.args.offers.now.items c.in-Some.index (sym found) in
    sym at.1

pub returns-clause-others : goal.returns-clause-others
returns-clause-others g c =
    let found = rw c.deref.ensures.value at c.in-Some.ensures in
    λ true. rw c.remove.ensures.items (remove_is_without c.args.feed c.args.offers.now.items c.requires c.in-Some.index (sym found))

pub returns-clause-ranked : goal.returns-clause-ranked
returns-clause-ranked g c =
    let found = rw c.deref.ensures.value at c.in-Some.ensures in
    let at = position-some (is_from c.args.feed) c.args.offers.now.items c.in-Some.index (sym found) in
    rw c.remove.ensures.items (IsRanked-remove c.args.offers.now.items c.in-Some.index c.requires at.0)
