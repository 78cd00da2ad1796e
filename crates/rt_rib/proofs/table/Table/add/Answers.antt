use Rattle.std.proofs.Common.{sym, ap, refl, ◌∙◌}
use Rattle.rt_rib.specs.Book.{OfferTrie, TableContents}
use Rattle.rt_rib.specs.Maps.{routes_of}
use Rattle.rt_rib.proofs.Counts.{AreCounts-own}
use Rattle.rt_rib.proofs.TableChanges.{kept_counted, kept_serves, added_counted, added_serves, to_be_added}
use Rattle.rt_rib.proofs.CommandCases.{exists, full}
use Rattle.rt_rib.proofs.MapChanges.{err_from}
use Rattle.rt_rib.proofs.table.Table.add.Goals as goal

pub returns-then-has-clause-ok : goal.returns-then-has-clause-ok
returns-then-has-clause-ok g c =
    rw (← c.self.view_is) (exists c.self.inside.limit (routes_of c.self.inside.map.pairs) c.args.route (sym c.has.ensures ∙ c.if-has.true))

pub returns-then-self-own-clause-ok : goal.returns-then-self-own-clause-ok
returns-then-self-own-clause-ok g c =
    let own = AreCounts-own c.self.inside.limit c.self.inside.counts (routes_of c.self.inside.map.pairs) c.args.route.feed c.self.invariant.counted
    c.requires in
    rw (← c.self.view_is)
    (full c.self.inside.limit (routes_of c.self.inside.map.pairs) c.args.route (sym c.has.ensures ∙ c.if-has.false) (rw own at c.if-self-own.true))

pub returns-then-self-own-clause-wanted : goal.returns-then-self-own-clause-wanted
returns-then-self-own-clause-wanted g c = tt

pub invariant_of-self : goal.invariant_of-self
invariant_of-self g c =
    kept_counted c.self.inside.limit c.self.inside.counts c.self.inside.map.pairs c.put_in.new.self.pairs c.self.invariant
    (ap (λ (m : OfferTrie). m.pairs) c.in_err-inserted.ensures.refused)

pub returns-in_err-inserted-clause-err : goal.returns-in_err-inserted-clause-err
returns-in_err-inserted-clause-err g c =
    let limit = c.self.inside.limit in
    let shown : OfferTrie → TableContents = λ m. record { limit = limit; routes = routes_of m.pairs; trie = m } in
    err_from c.from_residual.result (ap shown c.in_err-inserted.ensures.refused ∙ c.self.view_is)

pub returns-in_err-inserted-clause-wanted : goal.returns-in_err-inserted-clause-wanted
returns-in_err-inserted-clause-wanted g c =
    err_from c.from_residual.result
    (rw (← c.self.view_is)
    (to_be_added c.self.inside.limit c.self.inside.counts c.self.inside.map.pairs c.self.invariant c.self.told c.args.route c.requires
    c.in_err-inserted.ensures.wanted c.if-self-own.false))

pub invariant_of-self-in_default : goal.invariant_of-self-in_default
invariant_of-self-in_default g c =
    kept_counted c.self.inside.limit c.self.inside.counts c.self.inside.map.pairs c.put_in.new.self.pairs c.self.invariant
    ((rw c.in_default.is at c.in_ok-inserted.ensures.kept) refl)

pub returns-in_default-clause-ok : goal.returns-in_default-clause-ok
returns-in_default-clause-ok g c =
    rw (← c.self.view_is)
    (kept_serves c.self.inside.limit c.self.inside.map.pairs c.put_in.new.self.pairs _ _ _ ((rw c.in_default.is at c.in_ok-inserted.ensures.kept) refl)
    (exists c.self.inside.limit (routes_of c.self.inside.map.pairs) c.args.route (sym (rw c.in_default.is at c.in_ok-inserted.ensures.had))))

pub returns-in_default-clause-best : goal.returns-in_default-clause-best
returns-in_default-clause-best g c =
    rw (← c.self.view_is) (ap routes_of ((rw c.in_default.is at c.in_ok-inserted.ensures.kept) refl))

pub invariant_of-self-2 : goal.invariant_of-self-2
invariant_of-self-2 g c =
    added_counted c.self.inside.limit c.self.inside.counts c.self.inside.map.pairs c.self.invariant c.self.told
    c.args.route c.requires (sym (rw c.in-Some.is at c.in_ok-inserted.ensures.had)) c.if-self-own.false c.put_in.new.self.pairs
    ((rw c.in-Some.is at c.in_ok-inserted.ensures.more) refl)

pub returns-clause-ok : goal.returns-clause-ok
returns-clause-ok g c =
    rw (← c.self.view_is)
    (added_serves c.self.inside.limit c.self.inside.counts c.self.inside.map.pairs c.self.invariant c.self.told
    c.args.route c.requires (sym (rw c.in-Some.is at c.in_ok-inserted.ensures.had)) c.if-self-own.false c.put_in.new.self.pairs
    ((rw c.in-Some.is at c.in_ok-inserted.ensures.more) refl))

pub returns-clause-best : goal.returns-clause-best
returns-clause-best g c = rw (← c.self.view_is) (rw c.in-Some.is at c.in_ok-inserted.ensures.best)
