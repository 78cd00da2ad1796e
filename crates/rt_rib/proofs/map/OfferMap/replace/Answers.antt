use Rattle.std.proofs.Common.{sym, ◌∙◌}
use Rattle.rt_rib.specs.Order.{offer_of}
use Rattle.rt_rib.proofs.BestAfter.{best_there, best_put}
use Rattle.rt_rib.proofs.MapChanges.{none_had, is_had, unchanged, other, IsMap-put}
use Rattle.rt_rib.proofs.map.OfferMap.replace.Goals as goal

pub returns-in_default-clause-had : goal.returns-in_default-clause-had
returns-in_default-clause-had g c =
    rw (← c.self.view_is)
    (sym (none_had c.self.inside.trie.pairs c.self.invariant c.args.route.prefix c.args.route.feed c.in_default.ensures.value))

-- the feed has none
pub invariant_of-self-then-not-replace : goal.invariant_of-self-then-not-replace
invariant_of-self-then-not-replace g c =
    IsMap-put c.self.inside.trie.pairs c.self.invariant c.args.route.prefix c.replace.new.self c.replace.ensures.lawful

pub returns-then-not-replace-clause-had : goal.returns-then-not-replace-clause-had
returns-then-not-replace-clause-had g c =
    rw (← c.self.view_is)
    ((rw c.offer_of-offer.ensures at c.if-not-replace.ensures.had)
    ∙ sym (is_had c.self.invariant c.args.route.prefix c.in-Some.ensures.value c.args.route.feed))

pub returns-then-not-replace-clause-kept : goal.returns-then-not-replace-clause-kept
returns-then-not-replace-clause-kept g c =
    λ none.
    rw (← c.self.view_is) (unchanged c.self.invariant c.args.route.prefix c.in-Some.ensures.value c.if-not-replace.ensures.swapped)

-- the feed has one
pub invariant_of-self-2 : goal.invariant_of-self-2
invariant_of-self-2 g c =
    IsMap-put c.self.inside.trie.pairs c.self.invariant c.args.route.prefix c.replace.new.self c.replace.ensures.lawful

pub returns-clause-had : goal.returns-clause-had
returns-clause-had g c =
    rw (← c.self.view_is)
    ((rw c.offer_of-offer.ensures at c.if-not-replace.ensures.had)
    ∙ sym (is_had c.self.invariant c.args.route.prefix c.in-Some.ensures.value c.args.route.feed))

pub returns-clause-replaced : goal.returns-clause-replaced
returns-clause-replaced g c =
    λ some.
    rw (← c.self.view_is)
    (other c.self.invariant c.args.route.prefix c.in-Some.ensures.value c.replace.ensures.lawful (offer_of c.args.route)
    (rw c.offer_of-offer.ensures at c.if-not-replace.ensures.swapped))

pub returns-clause-best : goal.returns-clause-best
returns-clause-best g c =
    rw (← c.self.view_is) (record {
      before = best_there c.self.invariant c.args.route.prefix c.in-Some.ensures.value c.best-before.result c.best-before.ensures;
      after = best_put c.self.invariant c.args.route.prefix c.replace.ensures.lawful c.best-after.result c.best-after.ensures;
    })
