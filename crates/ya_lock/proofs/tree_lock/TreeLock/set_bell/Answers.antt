use Rattle.std.proofs.Common.{ℕ, sym, ◌∙◌, subst}
use Rattle.atomic_table.specs.Table.{Allows}
use Rattle.ya_lock.specs.Rule.{Rule}
use Rattle.ya_lock.specs.StepEffects.{SetsBell}
use Rattle.ya_lock.proofs.TreeSize.{bell_in}
use Rattle.ya_lock.proofs.BellStores.{announces}
use Rattle.ya_lock.proofs.tree_lock.TreeLock.set_bell.Goals as goal

pub store-requires : goal.store-requires
store-requires g c =
    let own = c.self.invariant in let lock = c.self.inside.table.shared.table_id in let i : ℕ = c.bell.result in
    let me = c.args.seat.now.me in (
      c.requires.lock ∙ sym c.self.view_is,
      bell_in lock g.row.L c.args.place i own.words c.requires.place c.bell.ensures,
      subst (λ (k : ℕ). Allows (Rule g.V.Kept.since k) lock.slots c.args.seat.now.id me i (λ _. c.args.value)
          (λ _ then'. SetsBell c.args.value me then')) (sym own.told)
          (announces g.V.Kept.since g.row.L lock.slots c.args.seat.now.id i c.args.value c.args.place me c.requires.own
          c.bell.ensures c.requires.bit),
    )
