use Rattle.std.proofs.Common.{sym, ap, ◌∙◌, refl}
use Rattle.rt_rib.specs.Maps.{is_from, Map}
use Rattle.rt_rib.specs.Order.{offer_of}
use Rattle.rt_rib.proofs.Lists.{list_any-none}
use Rattle.rt_rib.proofs.MapChanges.{none_had, is_had, more, unchanged, first_added, IsMap-put, IsOffers-one, err_from}
use Rattle.rt_rib.proofs.BestAfter.{best_there, best_put}
use Rattle.rt_rib.proofs.BestTo.{best_none}
use Rattle.rt_rib.proofs.map.OfferMap.put_in.Goals as goal

pub put-requires : goal.put-requires
put-requires g c = rw c.offer_of-offer.ensures (list_any-none (is_from c.args.route.feed) c.in-Some.offers.now (sym c.has.ensures ∙ c.if-has.false))

-- the feed has one
pub invariant_of-self : goal.invariant_of-self
invariant_of-self g c =
    IsMap-put c.self.inside.trie.pairs c.self.invariant c.args.route.prefix c.in-Some.offers.now
    (c.self.invariant.each c.args.route.prefix c.in-Some.offers.now (sym c.in-Some.ensures.value))

pub returns-then-has-clause-had : goal.returns-then-has-clause-had
returns-then-has-clause-had g c =
    rw (← c.self.view_is)
    (sym (is_had c.self.invariant c.args.route.prefix c.in-Some.ensures.value c.args.route.feed ∙ sym c.has.ensures ∙ c.if-has.true))

pub returns-then-has-clause-kept : goal.returns-then-has-clause-kept
returns-then-has-clause-kept g c = λ none. rw (← c.self.view_is) (unchanged c.self.invariant c.args.route.prefix c.in-Some.ensures.value refl)

pub returns-then-has-clause-refused : goal.returns-then-has-clause-refused
returns-then-has-clause-refused g c = tt

pub returns-then-has-clause-wanted : goal.returns-then-has-clause-wanted
returns-then-has-clause-wanted g c = tt

-- memory ran out for one more offer
pub invariant_of-self-in_err-put : goal.invariant_of-self-in_err-put
invariant_of-self-in_err-put g c =
    IsMap-put c.self.inside.trie.pairs c.self.invariant c.args.route.prefix c.put.new.self c.put.ensures.lawful

pub returns-in_err-put-clause-refused : goal.returns-in_err-put-clause-refused
returns-in_err-put-clause-refused g c =
    err_from c.from_residual.result
    (ap (λ (pairs : Map). record c.self.inside.trie { pairs = pairs })
    (unchanged c.self.invariant c.args.route.prefix c.in-Some.ensures.value c.in_err-put.ensures.refused) ∙ c.self.view_is)

pub returns-in_err-put-clause-wanted : goal.returns-in_err-put-clause-wanted
returns-in_err-put-clause-wanted g c =
    err_from c.from_residual.result
    (rw (← c.self.view_is)
    (is_had c.self.invariant c.args.route.prefix c.in-Some.ensures.value c.args.route.feed ∙ sym c.has.ensures ∙ c.if-has.false))

-- one more offer
pub invariant_of-self-in-Some : goal.invariant_of-self-in-Some
invariant_of-self-in-Some g c =
    IsMap-put c.self.inside.trie.pairs c.self.invariant c.args.route.prefix c.put.new.self c.put.ensures.lawful

pub returns-in-Some-clause-had : goal.returns-in-Some-clause-had
returns-in-Some-clause-had g c =
    rw (← c.self.view_is)
    (sym (is_had c.self.invariant c.args.route.prefix c.in-Some.ensures.value c.args.route.feed ∙ sym c.has.ensures ∙ c.if-has.false))

pub returns-in-Some-clause-more : goal.returns-in-Some-clause-more
returns-in-Some-clause-more g c =
    λ fresh.
    rw (← c.self.view_is)
    (more c.self.invariant c.args.route.prefix c.in-Some.ensures.value c.put.ensures.lawful (offer_of c.args.route)
    (is_had c.self.invariant c.args.route.prefix c.in-Some.ensures.value c.args.route.feed ∙ sym c.has.ensures ∙ c.if-has.false)
    (rw c.offer_of-offer.ensures at c.in_ok-put.ensures.ok))

pub returns-in-Some-clause-best : goal.returns-in-Some-clause-best
returns-in-Some-clause-best g c =
    rw (← c.self.view_is) (record {
      before = best_there c.self.invariant c.args.route.prefix c.in-Some.ensures.value c.best-before.result c.best-before.ensures;
      after = best_put c.self.invariant c.args.route.prefix c.put.ensures.lawful c.best-after.result c.best-after.ensures;
    })

-- the first offer for the prefix
pub invariant_of-self-in-Ok : goal.invariant_of-self-in-Ok
invariant_of-self-in-Ok g c =
    rw (c.in-Ok.ensures.put, c.one.ensures, c.offer_of-offer.ensures)
    (IsMap-put c.self.inside.trie.pairs c.self.invariant c.args.route.prefix _ (IsOffers-one (offer_of c.args.route)))

pub returns-in-Ok-clause-had : goal.returns-in-Ok-clause-had
returns-in-Ok-clause-had g c =
    rw (← c.self.view_is)
    (sym (none_had c.self.inside.trie.pairs c.self.invariant c.args.route.prefix c.args.route.feed c.in_default.ensures.value))

pub returns-in-Ok-clause-more : goal.returns-in-Ok-clause-more
returns-in-Ok-clause-more g c =
    λ fresh.
    rw (← c.self.view_is, c.in-Ok.ensures.put, c.one.ensures, c.offer_of-offer.ensures)
    (first_added c.self.inside.trie.pairs c.self.invariant c.args.route.prefix (offer_of c.args.route) c.in_default.ensures.value)

pub returns-in-Ok-clause-best : goal.returns-in-Ok-clause-best
returns-in-Ok-clause-best g c =
    rw (← c.self.view_is, c.in-Ok.ensures.put, c.one.ensures, c.offer_of-offer.ensures) (record {
      before = best_none c.self.inside.trie.pairs c.self.invariant c.args.route.prefix c.in_default.ensures.value;
      after = best_put c.self.invariant c.args.route.prefix (IsOffers-one (offer_of c.args.route)) c.args.route refl;
    })

pub returns-clause-wanted : goal.returns-clause-wanted
returns-clause-wanted g c =
    rw (← c.self.view_is)
    (none_had c.self.inside.trie.pairs c.self.invariant c.args.route.prefix c.args.route.feed c.in_default.ensures.value)
