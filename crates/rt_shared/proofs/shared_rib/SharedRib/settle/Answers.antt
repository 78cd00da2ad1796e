use Rattle.std.proofs.Common.{◌≡◌, ℕ, ◌≤◌, List, [], ◌∷◌, ◌++◌, All, ◌∙◌, refl, sym, ap, subst, append_assoc}
use Rattle.std.proofs.lemmas.List.Elements.{All-cons, All-nil}
use Rattle.rt_rib.specs.declared.commands.Entry.{Entry}
use Rattle.std.proofs.lemmas.List.{nil_from_length}
use Rattle.rt_rib.specs.Sequential.{IsLawfulJournal}
use Rattle.rt_rib.specs.Book.{BookContents}
use Rattle.ya_lock.specs.Lock.{IdlePass, OpenGuard, guard_of}
use Rattle.rt_shared.specs.inside.PassModel.{shared_id}
use Rattle.rt_shared.proofs.Passes.{all_amid, last_of, since_of, all_front, spaced}
use Rattle.rt_shared.specs.declared.lent.Lent.{Lent}
use Rattle.rt_shared.specs.JournalVisits.{Since}
use Rattle.rt_shared.specs.SharedTable.{HeldPass, SharedId, HasSameBounds, Settles}
use Rattle.rt_shared.proofs.shared_rib.SharedRib.settle.Goals as goal

-- the journal that the pass has seen is a prefix of this one, with no entry of its feed after it
abbrev Begins : List Entry → HeldPass → Type 0
Begins journal p = Since p.feed p.seen journal

pub enter-guard-requires : goal.enter-guard-requires
enter-guard-requires g c =
    let first = last_of c.args.self c.args.passes.items c.pop.new.self.items c.in-Some.last c.requires c.in-Some.ensures.items in
    (spaced, ap (λ (t : SharedId). t.lock) (c.into_idle.ensures.table ∙ (first ∙ sym c.self.view_is)))

pub loop-pass-init : goal.loop-pass-init
loop-pass-init g c = record {
  guard = refl;
  confirmed = c.in-Some.last ∷ [];
  all = c.in-Some.ensures.items;
  since = All-cons (Begins c.enter-guard.result.found.book.journal) c.in-Some.last []
      (since_of c.into_idle.result c.in-Some.last c.enter-guard.result.found c.into_idle.ensures.feed
      c.into_idle.ensures.seen c.enter-guard.ensures.fresh) (All-nil _);
}

pub confirm-guard-requires : goal.confirm-guard-requires
confirm-guard-requires g c =
    let i = c.loop-pass.invariant in
    let IsOf : HeldPass → Type 0 = λ p. p.table ≡ c.args.self in
    let first = last_of c.args.self c.args.passes.items c.pop.new.self.items c.in-Some.last c.requires c.in-Some.ensures.items in
    let all : All IsOf c.loop-pass.passes.items = all_front IsOf c.loop-pass.passes.items i.confirmed (subst (All IsOf) i.all c.requires.tables) in
    let this : c.in-Some-pop.pass.table ≡ c.args.self = all_amid IsOf c.pop-in-loop-pass.new.self.items
    [] c.in-Some-pop.pass (subst (All IsOf) c.in-Some-pop.ensures.items all) in (
      spaced,
      (
        ap (λ (x : OpenGuard Lent). x.lock) (i.guard ∙ c.enter-guard.ensures.guard)
            ∙ ap (λ (t : SharedId). t.lock) (c.into_idle.ensures.table ∙ (first ∙ sym c.self.view_is)),
        ap (λ (t : SharedId). t.lock) (c.into_idle-in-Some-pop.ensures.table ∙ (this ∙ sym c.self.view_is)),
      ),
    )

pub close-book-requires : goal.close-book-requires
close-book-requires g c =
    let i = c.loop-pass.invariant in
    let first = last_of c.args.self c.args.passes.items c.pop.new.self.items c.in-Some.last c.requires c.in-Some.ensures.items in (
      spaced,
      ap (λ (x : OpenGuard Lent). x.lock) (i.guard ∙ c.enter-guard.ensures.guard)
          ∙ ap (λ (t : SharedId). t.lock) (c.into_idle.ensures.table ∙ (first ∙ sym c.self.view_is)),
    )

pub loop-pass-preserved : goal.loop-pass-preserved
loop-pass-preserved g c =
    let i = c.loop-pass.invariant in let p = c.in-Some-pop.ensures in let idle = c.into_idle-in-Some-pop in
    let same : c.confirm-guard.result ≡ c.loop-pass.guard = c.confirm-guard.ensures.same in
    let journal : c.loop-pass.guard.found.book.journal ≡ c.confirm-guard.result.found.book.journal =
    ap (λ (x : OpenGuard Lent). x.found.book.journal) (sym same) in
    record {
      guard = same ∙ i.guard;
      confirmed = c.in-Some-pop.pass ∷ i.confirmed;
      all = i.all ∙ (ap (λ (l : List HeldPass). l ++ i.confirmed) p.items
          ∙ append_assoc c.pop-in-loop-pass.new.self.items (c.in-Some-pop.pass ∷ []) i.confirmed);
      since = subst (λ (l : List Entry). All (Begins l) (c.in-Some-pop.pass ∷ i.confirmed)) journal
          (All-cons (Begins c.loop-pass.guard.found.book.journal) c.in-Some-pop.pass i.confirmed
          (since_of idle.result c.in-Some-pop.pass c.loop-pass.guard.found idle.ensures.feed idle.ensures.seen c.confirm-guard.ensures.fresh) i.since);
    }

-- the resulting book has the table's limit and its number of feeds
module _ (table : SharedId) (idle : IdlePass Lent) (entered guard : OpenGuard Lent) (book : Lent)
    (of : shared_id idle ≡ table) (same : guard ≡ entered) (is : entered ≡ guard_of idle entered.found entered.remote)
    (closed : book ≡ guard.value) where
  -- the guard of a pass has changed nothing
  found_is : guard.found ≡ book
  found_is = ap (λ (x : OpenGuard Lent). x.found) same ∙ (sym (ap (λ (x : OpenGuard Lent). x.value) is)
      ∙ (ap (λ (x : OpenGuard Lent). x.value) (sym same) ∙ sym closed))

  -- the book's limit is the table's
  limit_is : HasSameBounds idle.seen entered.found → book.book.limit ≡ table.limit
  limit_is kept = ap (λ (l : Lent). l.book.limit) (sym found_is ∙ ap (λ (x : OpenGuard Lent). x.found) same) ∙ (kept.limit ∙ ap (λ (t : SharedId). t.limit) of)

  -- the book's number of feeds is the table's
  feeds_is : HasSameBounds idle.seen entered.found → book.feeds ≡ table.feeds
  feeds_is kept = ap (λ (l : Lent). l.feeds) (sym found_is ∙ ap (λ (x : OpenGuard Lent). x.found) same) ∙ (kept.feeds ∙ ap (λ (t : SharedId). t.feeds) of)

pub returns-clause-limit : goal.returns-clause-limit
returns-clause-limit g c =
    let i = c.loop-pass.invariant in let entered = c.enter-guard.ensures in
    let first = last_of c.args.self c.args.passes.items c.pop.new.self.items c.in-Some.last c.requires c.in-Some.ensures.items in
    ap (λ (b : BookContents). b.limit) c.into_book.ensures
    ∙ limit_is c.args.self c.into_idle.result c.enter-guard.result c.loop-pass.guard c.close-book.result
    (c.into_idle.ensures.table ∙ first) i.guard entered.guard c.close-book.ensures entered.fresh.same

pub returns-clause-settled : goal.returns-clause-settled
returns-clause-settled g c =
    let i = c.loop-pass.invariant in let entered = c.enter-guard.ensures in
    let first = last_of c.args.self c.args.passes.items c.pop.new.self.items c.in-Some.last c.requires c.in-Some.ensures.items in
    let table : shared_id c.into_idle.result ≡ c.args.self = c.into_idle.ensures.table ∙ first in
    let found = found_is c.args.self c.into_idle.result c.enter-guard.result c.loop-pass.guard c.close-book.result table
    i.guard entered.guard c.close-book.ensures in
    let limit = limit_is c.args.self c.into_idle.result c.enter-guard.result c.loop-pass.guard c.close-book.result table
    i.guard entered.guard c.close-book.ensures entered.fresh.same in
    let feeds = feeds_is c.args.self c.into_idle.result c.enter-guard.result c.loop-pass.guard c.close-book.result table
    i.guard entered.guard c.close-book.ensures entered.fresh.same in
    let all : c.args.passes.items ≡ i.confirmed =
    i.all ∙ ap (λ (l : List HeldPass). l ++ i.confirmed) (nil_from_length c.loop-pass.passes.items
    (sym c.loop-pass.passes.ok.0 ∙ c.in_default-pop.ensures.cases.0)) in
    subst (λ (b : BookContents). Settles c.args.self c.args.passes.items b.journal) (sym c.into_book.ensures) record {
      lawful = subst (λ (n : ℕ). IsLawfulJournal n c.close-book.result.book.journal) limit c.close-book.result.lawful;
      of_feeds = subst (λ (n : ℕ). All (λ (e : Entry). (1 ≤ e.feed) × (e.feed ≤ n)) c.close-book.result.book.journal) feeds c.close-book.result.of_feeds;
      since = subst (All (Begins c.close-book.result.book.journal)) (sym all) (subst (λ (l : Lent). All (Begins l.book.journal) i.confirmed) found i.since);
    }
