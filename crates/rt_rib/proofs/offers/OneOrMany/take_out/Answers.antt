use Rattle.std.proofs.Common.{◌≡◌, length, refl, sym, arith, rules}
use Rattle.rt_rib.proofs.OfferLists.{only_one}
use Rattle.rt_rib.proofs.offers.OneOrMany.take_out.Goals as goal

pub returns-then-len-eq1-clause-taken : goal.returns-then-len-eq1-clause-taken
returns-then-len-eq1-clause-taken g c =
    let counted = rw c.deref.ensures at c.len.ensures in
    let kept = c.take_among.new.offers.ok.0 in
    let one : length c.take_among.new.offers.items ≡ 1 = omega (arith, counted, kept) in
    let read = rw c.deref-then-len-eq1.ensures at c.index-offer.ensures in
    let same = only_one c.take_among.new.offers.items c.index-offer.result.now one read in
    let others = rw c.deref_mut.ensures.value at (c.if-not-take_among.ensures.others refl) in
    let fewer = rw c.deref_mut.ensures.value at (c.if-not-take_among.ensures.fewer refl) in
    rw c.in-Many.is (rw same at others, sym (rw c.deref_mut.ensures.value at c.if-not-take_among.ensures.had), omega (arith, one, fewer))

pub returns-else-len-eq1-clause-taken : goal.returns-else-len-eq1-clause-taken
returns-else-len-eq1-clause-taken g c =
    let others = rw c.deref_mut.ensures.value at (c.if-not-take_among.ensures.others refl) in
    let fewer = rw c.deref_mut.ensures.value at (c.if-not-take_among.ensures.fewer refl) in
    rw c.in-Many.is (
      others,
      sym (rw c.deref_mut.ensures.value at c.if-not-take_among.ensures.had),
      omega (arith, fewer, c.take_among.new.offers.ok.0, c.in-Many.offers.value.ok.0),
    )

pub returns-then-offer-feed-clause-taken : goal.returns-then-offer-feed-clause-taken
returns-then-offer-feed-clause-taken g c = search rules

pub returns-then-len-eq1-clause-valid : goal.returns-then-len-eq1-clause-valid
returns-then-len-eq1-clause-valid g c = search rules
