use Rattle.std.proofs.Common.{arith, ℕ, sym, ap, ◌∙◌, subst, Option}
use Rattle.atomic_table.specs.Table.{Me, Joins}
use Rattle.ya_core.specs.declared.process.Process.TheVariants.{Inside}
use Rattle.ya_lock.specs.declared.rule.View.{View}
use Rattle.ya_lock.specs.declared.rule.View.TheVariants.{Seated, Spent}
use Rattle.ya_lock.specs.Rule.{Rule}
use Rattle.ya_lock.specs.StepEffects.{joined_view}
use Rattle.ya_lock.specs.Lock.{OpenGuard, IdlePass}
use Rattle.ya_lock.proofs.ConfirmSteps.{joins, learns}
use Rattle.ya_lock.proofs.tree_lock.TreeLock.confirm.Goals as goal

pub join_seat-requires : goal.join_seat-requires
join_seat-requires g c =
    let V : Type 0 = g.row.V.Denot in let one = c.guard.inside in let other = c.pass.inside in let own =
    c.self.invariant in
    let M : Type 0 = Me (Option V) (View V) in
    let J : ℕ → View V → View V → Type 0 =
    λ k v w. Joins (Rule g.V.Kept.since k) one.seat.id v other.seat.id w (joined_view v w) Spent in (
      ap (λ (q : OpenGuard V). q.lock) c.guard.view_is ∙ (c.requires.guard ∙ sym c.self.view_is),
      ap (λ (q : IdlePass V). q.lock) c.pass.view_is ∙ (c.requires.pass ∙ sym c.self.view_is),
      ap (λ (m : M). m.1) c.pass.invariant.process,
      omega (arith, own.words),
      subst (λ (v : View V). J c.self.inside.table.shared.key v other.seat.me.0)
          (sym (ap (λ (m : M). m.0) c.guard.invariant.process))
          (subst (λ (w : View V). J c.self.inside.table.shared.key (Seated one.place Inside one.found.value one.remote) w)
          (sym (ap (λ (m : M). m.0) c.pass.invariant.process))
          (joins g.V.Kept.since c.self.inside.table.shared.key one.seat.id one.place one.found.value one.remote other.seat.id
          other.place other.seen.value other.remote)),
    )

pub load-requires : goal.load-requires
load-requires g c =
    let V : Type 0 = g.row.V.Denot in let one = c.guard.inside in let other = c.pass.inside in let own =
    c.self.invariant in
    let M : Type 0 = Me (Option V) (View V) in let j = c.join_seat.ensures in (
      j.0 ∙ (ap (λ (q : OpenGuard V). q.lock) c.guard.view_is ∙ (c.requires.guard ∙ sym c.self.view_is)),
      omega (arith, own.words),
      learns g.V.Kept.since c.self.inside.table.shared.key c.self.inside.table.shared.table_id.slots
          c.join_seat.new.seat.id 0 one.place one.found.value other.place other.seen.value one.remote
          c.join_seat.new.seat.me
          (ap (λ (m : M). m.0) j.2 ∙ (λ i. joined_view (c.guard.invariant.process i).0 (c.pass.invariant.process i).0)),
    )
