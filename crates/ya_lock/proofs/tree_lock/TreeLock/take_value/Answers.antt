use Rattle.std.proofs.Common.{◌≡◌, Option, ℕ, ◌*◌, ◌^◌, ◌<◌, ◌≤◌, false, sym, ap, ◌∙◌, rules, subst}
use Rattle.atomic_table.specs.Table.{Me}
use Rattle.ya_core.specs.WalkerModel.{op_of, walk}
use Rattle.ya_core.specs.declared.process.Process.TheVariants.{Inside}
use Rattle.ya_lock.specs.declared.rule.View.{View}
use Rattle.ya_lock.specs.declared.rule.View.TheVariants.{Seated}
use Rattle.ya_lock.specs.Lock.{LockId}
use Rattle.ya_lock.specs.inside.Lock.{OnWay, SeatOf, guard_at}
use Rattle.ya_lock.proofs.GuardSeats.{entered, has_slot, taken, guarded}
use Rattle.ya_lock.proofs.tree_lock.TreeLock.take_value.Goals as goal

pub exchange-requires : goal.exchange-requires
exchange-requires g c =
    let s = c.passage.inside in let w = s.walker in let V = g.row.V.Denot in
    let inside = ap (λ (p : OnWay V). op_of p.walk) c.passage.view_is ∙ c.requires in (
      c.passage.invariant.own ∙ sym c.lock.view_is,
      has_slot g.V.Kept.since g.V.Kept.done w.levels w.place s.seen.value w.remote s.seat.me
          (entered g.V.Kept.since g.V.Kept.done w s.seen.value s.seat.me inside c.passage.invariant.seat),
    )

pub invariant_of-result : goal.invariant_of-result
invariant_of-result g c =
    let s = c.passage.inside in let w = s.walker in let V = g.row.V.Denot in let x = c.exchange.ensures in
    let own = c.passage.invariant.own ∙ sym c.lock.view_is in let remote = c.remote-remote in
    let inside = ap (λ (p : OnWay V). op_of p.walk) c.passage.view_is ∙ c.requires in
    let below : s.place < 2 ^ g.row.L = search rules in
    let came = entered g.V.Kept.since g.V.Kept.done w s.seen.value s.seat.me inside c.passage.invariant.seat in
    guarded g.V.Kept.since g.V.Kept.done g.row.L s.place w.place remote.result s.seen.value c.in-Some.value
    c.of-found.result.value c.exchange.result c.exchange.new.seat.table_id s.seat.table_id
    c.lock.inside.table.shared.table_id s.seat.me c.exchange.new.seat.me x.0 own c.lock.invariant.words
    (record { levels = g.row.L; words = ap (λ (l : LockId). l.words) own ∙ c.lock.invariant.words; below = below })
    c.passage.invariant.at
    (subst (λ (l : ℕ). remote.result ≤ 7 * l) c.passage.invariant.tree (remote.ensures.inside inside))
    (subst (λ (r : ℕ). SeatOf g.V.Kept.since g.V.Kept.done s.seen.value (walk w.levels w.place Inside false r) s.seat.me)
    (sym remote.ensures.value) came)
    x.2 c.in-Some.is x.3 c.of-found.ensures

pub returns-clause-guard : goal.returns-clause-guard
returns-clause-guard g c =
    let s = c.passage.inside in let w = s.walker in let V = g.row.V.Denot in let x = c.exchange.ensures in
    let found = c.of-found.result.value in let remote = c.remote-remote in
    let inside = ap (λ (p : OnWay V). op_of p.walk) c.passage.view_is ∙ c.requires in
    let came = entered g.V.Kept.since g.V.Kept.done w s.seen.value s.seat.me inside c.passage.invariant.seat in
    let took = taken g.V.Kept.since g.V.Kept.done w.levels w.place s.seen.value c.in-Some.value w.remote c.exchange.result s.seat.me
    c.exchange.new.seat.me came x.2 c.in-Some.is x.3 in
    let seated : c.exchange.new.seat.me.0 ≡ Seated s.place Inside found remote.result =
    ap (λ (m : Me (Option V) (View V)). m.0) took.0
    ∙ (λ i. Seated (c.passage.invariant.at i) Inside (sym c.of-found.ensures i) (sym remote.ensures.value i)) in
    (λ i. record {
      lock = (x.0 ∙ c.passage.invariant.own) i;
      place = s.place;
      found = found;
      value = sym c.of-found.ensures i;
      remote = remote.result;
      view = seated i;
    }) ∙ ap (λ (p : OnWay V). guard_at p.of found remote.result) c.passage.view_is
