use Rattle.std.proofs.Common.{◌≡◌, Some, ◌∙◌, sym, ap, subst, append-nil, [], ◌++◌, rules, ℕ, List, length}
use Rattle.rt_rib.specs.declared.commands.Entry.{Entry}
use Rattle.rt_rib.specs.Sequential.{IsLawfulJournal}
use Rattle.ya_lock.specs.Lock.{OpenGuard}
use Rattle.rt_shared.specs.declared.lent.Lent.{Lent}
use Rattle.rt_shared.specs.JournalVisits.{AllBy, answered}
use Rattle.rt_shared.specs.SharedTable.{HeldPass, feed_of}
use Rattle.rt_shared.specs.inside.PassModel.{HoldsLockPass}
use Rattle.rt_shared.specs.inside.LentLaws.{since_same}
use Rattle.rt_shared.proofs.EntriesInPieces.{all_answered, nothing_answered}
use Rattle.rt_shared.proofs.Passes.{lock_of, seen_is_lawful, spaced}
use Rattle.rt_shared.proofs.shared_rib.SharedRib.apply_batch.Goals as goal

pub returns-then-is_empty-clause-ok : goal.returns-then-is_empty-clause-ok
returns-then-is_empty-clause-ok g c =
    let empty : length c.args.cmds.now ≡ 0 = search rules in
    let lawful : IsLawfulJournal c.args.pass.now.table.limit c.args.pass.now.seen =
    subst (λ (p : HeldPass). IsLawfulJournal p.table.limit p.seen) c.pass.view_is (seen_is_lawful c.pass.inside.feed c.pass.inside.pass c.pass.invariant) in
    record {
      outcomes = [];
      appended = sym (append-nil c.args.out.now.items);
      visit = record {
        found = c.args.pass.now.seen;
        since = since_same c.args.pass.now.feed c.args.pass.now.seen;
        each = sym empty;
        added = sym (append-nil c.args.pass.now.seen)
            ∙ ap (λ (l : List Entry). c.args.pass.now.seen ++ l) (sym (nothing_answered c.args.pass.now.feed c.args.cmds.now));
        lawful = subst (λ (n : ℕ). IsLawfulJournal n c.args.pass.now.seen) (ap (λ t. t.limit) c.requires) lawful;
      };
    }

pub leave-requires : goal.leave-requires
leave-requires g c =
    let s = c.serve_all.ensures in let guard = c.enter-guard.ensures.guard in
    let is : c.pass.inside.pass ≡ Some c.unwrap.result = cc in
    let there : HoldsLockPass c.pass.inside.feed (Some c.unwrap.result) = subst (HoldsLockPass c.pass.inside.feed) is c.pass.invariant in
    let feed : c.pass.inside.feed ≡ feed_of c.enter-guard.result.place = there.0 ∙ ap feed_of (sym (ap (λ (x : OpenGuard Lent). x.place) guard)) in
    let value : c.get_mut.result.now ≡ c.enter-guard.result.found = c.get_mut.ensures.value ∙ ap (λ (x : OpenGuard Lent). x.value) guard in
    let lock : c.enter-guard.result.lock ≡ c.self.inside.lock =
    ap (λ (x : OpenGuard Lent). x.lock) guard
    ∙ lock_of c.pass.inside.feed c.pass.inside.pass c.unwrap.result c.args.pass.now c.args.self.now _ is c.pass.view_is c.requires
    c.self.view_is in (
      spaced,
      (
        lock,
        record {
          same = record { limit = s.same.limit ∙ ap (λ (l : Lent). l.book.limit) value; feeds = s.same.feeds ∙ ap (λ (l : Lent). l.feeds) value };
          own = answered c.pass.inside.feed c.args.cmds.now s.served.outcomes;
          added = s.served.added ∙ ap (λ (l : Lent). l.book.journal ++ answered c.pass.inside.feed c.args.cmds.now s.served.outcomes) value;
          by_feed = subst (λ (n : ℕ). AllBy n (answered c.pass.inside.feed c.args.cmds.now s.served.outcomes)) feed
              (all_answered c.pass.inside.feed c.args.cmds.now s.served.outcomes);
        },
      ),
    )

pub returns-clause-ok : goal.returns-clause-ok
returns-clause-ok g c = search rules
