use Rattle.std.proofs.Common.{ℕ, sym, ◌∙◌, subst}
use Rattle.atomic_table.specs.Table.{Allows}
use Rattle.ya_lock.specs.Rule.{Rule, OwesRing}
use Rattle.ya_lock.specs.StepEffects.{FindsBell, ClearsBell}
use Rattle.ya_lock.proofs.TreeSize.{bell_in}
use Rattle.ya_lock.proofs.BellStores.{finds, clears}
use Rattle.ya_lock.proofs.tree_lock.TreeLock.ring.Goals as goal

pub load-requires : goal.load-requires
load-requires g c =
    let own = c.self.invariant in let lock = c.self.inside.table.shared.table_id in let i : ℕ = c.bell.result in
    let me = c.args.seat.now.me in (
      c.requires.lock ∙ sym c.self.view_is,
      bell_in lock g.row.L c.args.rival i own.words c.requires.rival c.bell.ensures,
      subst (λ (k : ℕ). Allows (Rule g.V.Kept.since k) lock.slots c.args.seat.now.id me i (λ n. n)
          (λ n then'. FindsBell n me then')) (sym own.told)
          (finds g.V.Kept.since g.row.L lock.slots c.args.seat.now.id i c.args.rival me c.requires.owes c.bell.ensures),
    )

pub store-requires : goal.store-requires
store-requires g c =
    let own = c.self.invariant in let lock = c.self.inside.table.shared.table_id in
    let i : ℕ = c.bell-then-load-eq1.result in
    let me = c.load.new.seat.me in let found = c.load.ensures in
    let same = found.2.0 c.if-load-eq1.true in (
      found.0 ∙ (c.requires.lock ∙ sym c.self.view_is),
      bell_in lock g.row.L c.args.rival i own.words c.requires.rival c.bell-then-load-eq1.ensures,
      subst (λ (k : ℕ). Allows (Rule g.V.Kept.since k) lock.slots c.load.new.seat.id me i (λ _. 0)
          (λ _ then'. ClearsBell 0 me then')) (sym own.told)
          (clears g.V.Kept.since g.row.L lock.slots c.load.new.seat.id i c.args.rival me
          (subst (λ m. OwesRing m.0 c.args.rival) (sym same) c.requires.owes) c.requires.rival
          c.bell-then-load-eq1.ensures),
    )
