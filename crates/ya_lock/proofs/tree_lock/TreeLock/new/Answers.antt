use Rattle.std.proofs.Common.{arith, ◌≡◌, ℕ, ◌*◌, ◌≤◌, [], ◌∷◌, sym, ap, ◌∙◌, subst, Some, None, Option}
use Rattle.atomic_table.specs.Table.{Me, Allows, rest}
use Rattle.ya_core.specs.ArbitrationTree.{count_of_words}
use Rattle.ya_lock.specs.declared.rule.View.{View}
use Rattle.ya_lock.specs.declared.rule.View.TheVariants.{Filling}
use Rattle.ya_lock.specs.Rule.{making_index, Rule}
use Rattle.ya_lock.specs.StepEffects.{TakesSlot, GivesValue}
use Rattle.ya_lock.proofs.WordsInRow.{making_small, making_is}
use Rattle.ya_lock.proofs.NewSteps.{takes_slot, gives_value}
use Rattle.ya_lock.proofs.tree_lock.TreeLock.new.Goals as goal

pub overflow_mul-words : goal.overflow_mul-words
overflow_mul-words g c =
    let m : ℕ = making_index g.row.L in let small : m ≤ 4294967296 = making_small g.row.L c.requires.1 in let words : ℕ =
    c.words.result in
    let is : 8 * words ≡ m =
    ap (λ (n : ℕ). 8 * n) (c.words.ensures ∙ ap count_of_words c.shape-shape.ensures) ∙ making_is g.row.L in
    omega arith

pub new_table-requires-clause-making : goal.new_table-requires-clause-making
new_table-requires-clause-making g c =
    ap (λ (n : ℕ). 8 * n) (c.words.ensures ∙ ap count_of_words c.shape-shape.ensures) ∙ making_is g.row.L

pub load-requires : goal.load-requires
load-requires g c =
    let made = c.in-Ok-new_table.ensures in (
      made.lock,
      omega (arith, made.table.words),
      subst (λ (key : ℕ). Allows
          (Rule g.V.Kept.since key) c.in-Ok-new_table.table.shared.table_id.slots c.in-Ok-new_table.maker.id
          c.in-Ok-new_table.maker.me 0 (λ n. n) (λ n then'. TakesSlot c.in-Ok-new_table.maker.me.0 then')) (sym made.table.told)
          (takes_slot g.V.Kept.since g.V.Kept.since_same g.row.L c.in-Ok-new_table.table.shared.table_id.slots
          c.in-Ok-new_table.maker.id 0 c.in-Ok-new_table.maker.me (ap (λ m. m.0) made.maker) (ap (λ m. m.1) made.maker)),
    )

pub load-requires-2 : goal.load-requires-2
load-requires-2 g c =
    let made = c.in-Ok-new_table.ensures in let x = c.exchange-empty.ensures in
    let took : c.load.new.seat.me ≡ (Filling, (0, None) ∷ []) =
    subst (λ (v : View g.row.V.Denot). TakesSlot v c.load.new.seat.me)
    (ap (λ (m : Me (Option g.row.V.Denot) (View g.row.V.Denot)). m.0) made.maker) c.load.ensures.2 in
    let key : c.in-Ok-new_table.table.shared.key ≡ g.row.L = made.table.told in (
      x.0 ∙ (c.load.ensures.0 ∙ made.lock),
      omega (arith, made.table.words),
      subst (λ (key : ℕ). Allows
          (Rule g.V.Kept.since key) c.in-Ok-new_table.table.shared.table_id.slots c.exchange-empty.new.seat.id
          c.exchange-empty.new.seat.me 0 (λ n. n)
          (λ n then'. GivesValue c.exchange-empty.new.seat.me.0 c.exchange-empty.new.seat.me.1 then')) (sym key)
          (gives_value g.V.Kept.since g.V.Kept.since_same g.row.L c.in-Ok-new_table.table.shared.table_id.slots
          c.exchange-empty.new.seat.id 0 c.args.value c.exchange-empty.new.seat.me
          (ap (λ m. m.0) x.3 ∙ ap (λ m. m.0) took)
          (ap (λ m. m.1) x.3
          ∙ ap (λ (m : Me (Option g.row.V.Denot) (View g.row.V.Denot)). (0, Some c.args.value) ∷ rest m.1) took)),
    )
