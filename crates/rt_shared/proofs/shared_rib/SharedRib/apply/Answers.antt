use Rattle.std.proofs.Common.{◌≡◌, Some, ◌∙◌, sym, ap, subst, rules}
use Rattle.ya_lock.specs.Lock.{OpenGuard}
use Rattle.rt_shared.specs.declared.lent.Lent.{Lent}
use Rattle.rt_shared.specs.SharedTable.{feed_of, GrowsByFeed}
use Rattle.rt_shared.specs.inside.PassModel.{HoldsLockPass}
use Rattle.rt_shared.proofs.EntriesInPieces.{adds_applied}
use Rattle.rt_shared.proofs.Passes.{lock_of, spaced}
use Rattle.rt_shared.proofs.shared_rib.SharedRib.apply.Goals as goal

pub leave-requires : goal.leave-requires
leave-requires g c =
    let e = c.apply-answer.ensures in let guard = c.enter-guard.ensures.guard in
    let is : c.pass.inside.pass ≡ Some c.unwrap.result = cc in
    let there : HoldsLockPass c.pass.inside.feed (Some c.unwrap.result) = subst (HoldsLockPass c.pass.inside.feed) is c.pass.invariant in
    let feed : c.pass.inside.feed ≡ feed_of c.enter-guard.result.place = there.0 ∙ ap feed_of (sym (ap (λ (x : OpenGuard Lent). x.place) guard)) in
    let value : c.get_mut.result.now ≡ c.enter-guard.result.found = c.get_mut.ensures.value ∙ ap (λ (x : OpenGuard Lent). x.value) guard in
    let lock : c.enter-guard.result.lock ≡ c.self.inside.lock =
    ap (λ (x : OpenGuard Lent). x.lock) guard
    ∙ lock_of c.pass.inside.feed c.pass.inside.pass c.unwrap.result c.args.pass.now c.args.self.now _ is c.pass.view_is c.requires
    c.self.view_is in
    let adds =
    adds_applied c.enter-guard.result.place c.pass.inside.feed c.args.cmd c.get_mut.result.now c.apply-answer.new.self
    c.apply-answer.result feed e.feeds e.ok e.err in
    (spaced, (lock, subst (λ (l : Lent). GrowsByFeed c.enter-guard.result.place l c.apply-answer.new.self) value adds))

pub returns-clause-ok : goal.returns-clause-ok
returns-clause-ok g c = search rules
