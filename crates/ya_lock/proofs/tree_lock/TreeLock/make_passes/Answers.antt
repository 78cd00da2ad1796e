use Rattle.std.proofs.Common.{arith, refl, ◌≡◌, ℕ, ◌-◌, ◌^◌, ◌≤◌, [], sym, ap, ◌∙◌, subst, vec_len}
use Rattle.atomic_table.specs.Table.{Allows, Splits}
use Rattle.std.specs.Prelude.{Option}
use Rattle.atomic_table.specs.Table.{Me}
use Rattle.std.proofs.lemmas.Nat.{pow_pos}
use Rattle.ya_core.specs.declared.process.Process.TheVariants.{Idle}
use Rattle.ya_lock.specs.Lock.{IdlePass}
use Rattle.ya_lock.specs.declared.rule.View.{View}
use Rattle.ya_lock.specs.declared.rule.View.TheVariants.{Seated}
use Rattle.ya_lock.specs.Rule.{Rule}
use Rattle.ya_lock.specs.StepEffects.{handed_out, rest_to_hand_out, HandsOutLast}
use Rattle.ya_lock.proofs.NewSteps.{splits, ends}
use Rattle.ya_lock.proofs.PassesInOrder.{one_more_pass}
use Rattle.ya_lock.proofs.tree_lock.TreeLock.make_passes.Goals as goal

pub split_seat-seat-requires : goal.split_seat-seat-requires
split_seat-seat-requires g c =
    let i = c.loop-place.invariant in let own = c.self.invariant in let L : ℕ = g.row.L in
    let places : ℕ = 2 ^ L in
    let last : c.places-last.result ≡ places = c.places-last.ensures.value ∙ ap (λ (n : ℕ). 2 ^ n) c.shape.ensures in
    let below = c.loop-place-test.true in (
      i.same ∙ sym c.self.view_is,
      omega (arith, own.words),
      subst (λ (key : ℕ). Splits (Rule g.V.Kept.since key) c.loop-place.maker.id c.loop-place.maker.me.0
          (rest_to_hand_out c.loop-place.maker.me.0) (handed_out c.loop-place.maker.me.0)) (sym own.told)
          (subst (λ (v : View g.row.V.Denot). Splits (Rule g.V.Kept.since L) c.loop-place.maker.id v (rest_to_hand_out v) (handed_out v))
          (sym (ap (λ m. m.0) i.view))
          (splits g.V.Kept.since g.V.Kept.since_same L c.loop-place.maker.id c.loop-place.place c.args.seen.value
          (omega arith))),
    )

pub loop-place-preserved : goal.loop-place-preserved
loop-place-preserved g c =
    let i = c.loop-place.invariant in let e = c.split_seat-seat.ensures in let p = c.push_reserved.ensures in
    let n : ℕ = c.loop-place.place in
    let x : IdlePass g.row.V.Denot =
    record {
      lock = c.split_seat-seat.result.table_id;
      place = n;
      seen = c.again.result.value;
      remote = 0;
      view = c.split_seat-seat.result.me.0;
    } in
    record {
      same = e.0 ∙ i.same;
      view = e.2 ∙ ap (λ (m : Me (Option g.row.V.Denot) (View g.row.V.Denot)). (rest_to_hand_out m.0, m.1)) i.view;
      count = omega (arith, p.len, i.count);
      made = one_more_pass c.args.self.now c.args.seen.value c.loop-place.passes.items c.push_reserved.new.self.items n
          x p.items (sym c.loop-place.passes.ok.0 ∙ i.count) (e.3 ∙ i.same)
          refl c.again.ensures refl
          (ap (λ (m : Me (Option g.row.V.Denot) (View g.row.V.Denot)). m.0) e.4
          ∙ ap (λ (m : Me (Option g.row.V.Denot) (View g.row.V.Denot)). handed_out m.0) i.view) i.made;
      capacity = subst (λ (m : ℕ). 2 ^ g.row.L ≤ m) (sym p.capacity) i.capacity;
    }

pub load-requires : goal.load-requires
load-requires g c =
    let i = c.loop-place.invariant in let own = c.self.invariant in let L : ℕ = g.row.L in (
      i.same ∙ sym c.self.view_is,
      omega (arith, own.words),
      subst (λ (key : ℕ). Allows
          (Rule g.V.Kept.since key) c.self.inside.table.shared.table_id.slots c.loop-place.maker.id
          c.loop-place.maker.me 0 (λ n. n) (λ n then'. HandsOutLast c.loop-place.maker.me.0 c.loop-place.maker.me.1 then'))
          (sym own.told)
          (ends g.V.Kept.since g.V.Kept.since_same L c.self.inside.table.shared.table_id.slots c.loop-place.maker.id 0
          c.loop-place.place c.args.seen.value c.loop-place.maker.me (ap (λ m. m.0) i.view)),
    )

pub returns : goal.returns
returns g c =
    let i = c.loop-place.invariant in let e = c.load.ensures in let p = c.push_reserved-2.ensures in let n : ℕ =
    c.loop-place.place in
    let L : ℕ = g.row.L in let places : ℕ = 2 ^ L in let count : ℕ = c.places-last.result in
    let all : count ≡ places = c.places-last.ensures.value ∙ ap (λ (m : ℕ). 2 ^ m) c.shape.ensures in
    let some : 1 ≤ places = pow_pos L in
    let reached : count - 1 ≤ n = c.loop-place-test.false in
    let within : n ≤ count - 1 = c.loop-place.auto.place-end in
    let last : count - 1 ≡ n = omega arith in
    let x : IdlePass g.row.V.Denot =
    record {
      lock = c.load.new.seat.table_id;
      place = c.places-last.result - 1;
      seen = c.args.seen.value;
      remote = 0;
      view = c.load.new.seat.me.0;
    } in
    let last_view : c.load.new.seat.me ≡ (Seated n Idle c.args.seen.value 0, []) =
    subst (λ (m : Me (Option g.row.V.Denot) (View g.row.V.Denot)). HandsOutLast m.0 m.1 c.load.new.seat.me) i.view e.2 in
    let held : vec_len c.loop-place.passes ≡ n = i.count in
    record {
      count = omega (arith, p.len);
      each = λ k h.
          one_more_pass c.args.self.now c.args.seen.value c.loop-place.passes.items c.push_reserved-2.new.self.items n x
          p.items (sym c.loop-place.passes.ok.0 ∙ i.count) (e.0 ∙ i.same)
          last refl refl
          (ap (λ (m : Me (Option g.row.V.Denot) (View g.row.V.Denot)). m.0) last_view) i.made k (omega arith);
    }
