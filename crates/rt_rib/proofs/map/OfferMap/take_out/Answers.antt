use Rattle.std.proofs.Common.{sym, ◌∙◌}
use Rattle.rt_rib.proofs.MapChanges.{none_had, is_had, unchanged, less, last_gone, last_map, one_is_from, IsMap-put}
use Rattle.rt_rib.proofs.BestAfter.{best_there, best_put, best_erased}
use Rattle.rt_rib.proofs.OfferLists.{lost}
use Rattle.rt_rib.proofs.map.OfferMap.take_out.Goals as goal

pub returns-in_default-clause-had : goal.returns-in_default-clause-had
returns-in_default-clause-had g c =
    rw (← c.self.view_is)
    (sym (none_had c.self.inside.trie.pairs c.self.invariant c.args.prefix c.args.feed c.in_default.ensures.value))

-- the feed has none
pub invariant_of-self-in-Missing : goal.invariant_of-self-in-Missing
invariant_of-self-in-Missing g c =
    IsMap-put c.self.inside.trie.pairs c.self.invariant c.args.prefix c.take_out-removal.new.self c.in-Missing.ensures.lawful

pub returns-in-Missing-clause-had : goal.returns-in-Missing-clause-had
returns-in-Missing-clause-had g c =
    rw (← c.self.view_is)
    (sym (is_had c.self.invariant c.args.prefix c.in-Some.ensures.value c.args.feed ∙ c.in-Missing.ensures.taken.1))

pub returns-in-Missing-clause-kept : goal.returns-in-Missing-clause-kept
returns-in-Missing-clause-kept g c =
    λ none. rw (← c.self.view_is) (unchanged c.self.invariant c.args.prefix c.in-Some.ensures.value c.in-Missing.ensures.taken.0)

-- the feed had one of several
pub invariant_of-self-in-Gone : goal.invariant_of-self-in-Gone
invariant_of-self-in-Gone g c =
    IsMap-put c.self.inside.trie.pairs c.self.invariant c.args.prefix c.take_out-removal.new.self c.in-Gone.ensures.lawful

pub returns-in-Gone-clause-had : goal.returns-in-Gone-clause-had
returns-in-Gone-clause-had g c =
    rw (← c.self.view_is)
    (sym (is_had c.self.invariant c.args.prefix c.in-Some.ensures.value c.args.feed ∙ c.in-Gone.ensures.taken.1))

pub returns-in-Gone-clause-gone : goal.returns-in-Gone-clause-gone
returns-in-Gone-clause-gone g c =
    λ some.
    rw (← c.self.view_is)
    (less c.self.invariant c.args.prefix c.in-Some.ensures.value c.in-Gone.ensures.lawful c.args.feed
    (lost c.args.feed c.in-Some.offers.now c.take_out-removal.new.self c.in-Gone.ensures.taken.0))

pub returns-in-Gone-clause-best : goal.returns-in-Gone-clause-best
returns-in-Gone-clause-best g c =
    rw (← c.self.view_is) (record {
      before = best_there c.self.invariant c.args.prefix c.in-Some.ensures.value c.best-before.result c.best-before.ensures;
      after = best_put c.self.invariant c.args.prefix c.in-Gone.ensures.lawful c.best-after.result c.best-after.ensures;
    })

-- the feed had the only one
pub invariant_of-self-in-Last : goal.invariant_of-self-in-Last
invariant_of-self-in-Last g c =
    rw c.remove.ensures.erased (last_map c.self.invariant c.args.prefix c.in-Some.ensures.value c.in-Last.ensures.taken.0)

pub returns-in-Last-clause-had : goal.returns-in-Last-clause-had
returns-in-Last-clause-had g c =
    let only = c.in-Last.ensures.taken.1 in
    rw (← c.self.view_is)
    (sym (is_had c.self.invariant c.args.prefix c.in-Some.ensures.value c.args.feed
    ∙ one_is_from c.args.feed c.in-Some.offers.now only.0 only.1 only.2))

pub returns-in-Last-clause-gone : goal.returns-in-Last-clause-gone
returns-in-Last-clause-gone g c =
    let only = c.in-Last.ensures.taken.1 in
    λ some.
    rw (← c.self.view_is, c.remove.ensures.erased)
    (last_gone c.self.invariant c.args.prefix c.in-Some.ensures.value c.in-Last.ensures.taken.0 c.args.feed only.0 only.1 only.2)

pub returns-in-Last-clause-best : goal.returns-in-Last-clause-best
returns-in-Last-clause-best g c =
    rw (← c.self.view_is, c.remove.ensures.erased) (record {
      before = best_there c.self.invariant c.args.prefix c.in-Some.ensures.value c.best-before.result c.best-before.ensures;
      after = best_erased (IsMap-put c.self.inside.trie.pairs c.self.invariant c.args.prefix c.take_out-removal.new.self c.in-Last.ensures.lawful) c.args.prefix;
    })
