use Rattle.std.proofs.Common.{◌≡◌, true, sym, ap, ◌∙◌, subst, rules}
use Rattle.ya_lock.specs.Lock.{OpenGuard}
use Rattle.ya_core.specs.declared.process.Process.TheVariants.{Inside}
use Rattle.ya_core.specs.WalkerModel.{Walk, walk}
use Rattle.ya_lock.proofs.GuardSeats.{told_to_leave}
use Rattle.ya_lock.specs.inside.Lock.{OnWay}
use Rattle.ya_lock.proofs.TreeSize.{place_below}
use Rattle.ya_lock.proofs.Ways.{comes_idle}
use Rattle.ya_lock.proofs.tree_lock.TreeLock.leave.Goals as goal

pub inside-walker-requires-clause-place : goal.inside-walker-requires-clause-place
inside-walker-requires-clause-place g c =
    place_below c.guard.inside.seat.table_id c.self.inside.table.shared.table_id c.guard.inside.place g.row.L
    c.shape.result
    (ap (λ (q : OpenGuard g.row.V.Denot). q.lock) c.guard.view_is
    ∙ (c.requires.lock ∙ sym c.self.view_is)) c.self.invariant.words c.shape.ensures c.guard.invariant.in_tree

pub invariant_of-passage : goal.invariant_of-passage
invariant_of-passage g c =
    let s = c.guard.inside in let x = c.exchange.ensures in let V = g.row.V.Denot in let shape = c.shape.result in
    let is : c.begin_exit.new.self ≡ walk shape s.place Inside true s.remote =
    c.begin_exit.ensures
    ∙ ap (λ (w : Walk). walk w.levels w.place w.process true w.remote) c.inside-walker.ensures in
    record {
      own = x.0 ∙ (ap (λ (q : OpenGuard V). q.lock) c.guard.view_is ∙ c.requires.lock);
      tree = ap (λ (w : Walk). w.levels) is ∙ c.shape.ensures;
      at = ap (λ (w : Walk). w.place) is;
      seat = told_to_leave g.V.Kept.since g.V.Kept.done c.begin_exit.new.self shape s.place s.remote s.found.value s.value
          c.of-seen.result.value s.seat.me c.exchange.new.seat.me is
          (subst (λ (q : OpenGuard V). g.V.Kept.done q.place q.found q.value) (sym c.guard.view_is) c.requires.done)
          c.of-seen.ensures c.guard.invariant.process x.3;
    }

pub invariant_of-result : goal.invariant_of-result
invariant_of-result g c = search rules

pub returns-clause-pass : goal.returns-clause-pass
returns-clause-pass g c = search rules

pub returns-clause-walks : goal.returns-clause-walks
returns-clause-walks g c =
    let s = c.guard.inside in let V = g.row.V.Denot in let shape = c.shape.result in
    let is : c.begin_exit.new.self ≡ walk shape s.place Inside true s.remote =
    c.begin_exit.ensures
    ∙ ap (λ (w : Walk). walk w.levels w.place w.process true w.remote) c.inside-walker.ensures in
    let begins =
    is ∙ (λ i. walk (c.shape.ensures i) s.place Inside true s.remote)
    ∙ ap (λ (q : OpenGuard V). walk g.row.L q.place Inside true q.remote) c.guard.view_is in
    let made = c.remote.ensures.value ∙ ap (λ (p : OnWay V). p.walk.remote) c.passage.view_is in
    comes_idle (walk g.row.L c.args.guard.place Inside true c.args.guard.remote) c.begin_exit.new.self
    c.release-passage.result.walk c.remote.result begins c.release-passage.ensures.way c.release-passage.ensures.idle made
