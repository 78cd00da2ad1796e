use Rattle.std.proofs.Common.{sym, rules}
use Rattle.rt_rib.specs.Maps.{is_from}
use Rattle.rt_rib.proofs.OfferLists.{position-none, position-some, IsRanked-remove, none_of_feed, remove_is_without, lost, swapped}
use Rattle.rt_rib.proofs.offers.replace_among.Goals as goal

pub returns-in_default-clause-had : goal.returns-in_default-clause-had
returns-in_default-clause-had g c =
    let found = rw c.deref.ensures.value at c.in_default.ensures in
    sym (position-none (is_from c.args.offer.feed) c.args.offers.now.items (sym found))

pub put_among-requires-clause-ranked : goal.put_among-requires-clause-ranked
put_among-requires-clause-ranked g c =
    let found = rw c.deref.ensures.value at c.in-Some.ensures in
    let at = position-some (is_from c.args.offer.feed) c.args.offers.now.items c.in-Some.index (sym found) in
    rw c.remove.ensures.items (IsRanked-remove c.args.offers.now.items c.in-Some.index c.requires at.0)

pub put_among-requires-clause-fresh : goal.put_among-requires-clause-fresh
put_among-requires-clause-fresh g c =
    let found = rw c.deref.ensures.value at c.in-Some.ensures in
    rw c.remove.ensures.items (none_of_feed c.args.offer.feed c.args.offers.now.items c.requires c.in-Some.index (sym found))

pub returns-clause-had : goal.returns-clause-had
returns-clause-had g c =
    let found = rw c.deref.ensures.value at c.in-Some.ensures in
    let at = position-some (is_from c.args.offer.feed) c.args.offers.now.items c.in-Some.index (sym found) in
    sym at.1

pub returns-clause-swapped : goal.returns-clause-swapped
returns-clause-swapped g c =
    let found = rw c.deref.ensures.value at c.in-Some.ensures in
    let others = remove_is_without c.args.offer.feed c.args.offers.now.items c.requires c.in-Some.index (sym found) in
    let less = lost c.args.offer.feed c.args.offers.now.items c.remove.new.self.items (rw c.remove.ensures.items others) in
    swapped c.args.offers.now.items c.remove.new.self.items c.put_among.new.offers.items c.args.offer less c.in-Ok.ensures.ok

pub returns-clause-ranked : goal.returns-clause-ranked
returns-clause-ranked g c = search rules
