use Rattle.std.proofs.Common.{arith, ◌≡◌, ℕ, ◌+◌, ◌*◌, ◌^◌, ◌≤◌, List, [], ◌∷◌, length, sym, ap, ◌∙◌, subst, None}
use Rattle.ya_core.specs.declared.limits.TheConstants.{MAX_PLACES}
use Rattle.atomic_table.specs.Table.{opening, Arrives}
use Rattle.ya_lock.specs.declared.rule.View.TheVariants.{Unused}
use Rattle.ya_lock.specs.Rule.{making_index, Rule}
use Rattle.ya_lock.specs.StepEffects.{BeginsMaking}
use Rattle.ya_lock.proofs.WordsInRow.{making_small}
use Rattle.ya_lock.proofs.NewSteps.{opens, begins}
use Rattle.ya_lock.proofs.tree_lock.TreeLock.new_table.Goals as goal

pub overflow_add-making : goal.overflow_add-making
overflow_add-making g c =
    let m : ℕ = making_index g.row.L in let small : m ≤ 4294967296 = making_small g.row.L c.requires.levels.1 in
    let n : c.args.making ≡ m = c.requires.making in let bells : ℕ = c.places-bells.result in
    let few : bells ≤ MAX_PLACES = c.places-bells.ensures.most in omega arith

pub vacant-requires : goal.vacant-requires
vacant-requires g c =
    subst (λ (row : List ℕ). Rule g.V.Kept.since g.row.L (opening row (None ∷ []) Unused))
    (sym (c.as_slice.ensures.value ∙ c.in-Ok.ensures.items_if_clones_equal (λ y e. e)))
    (opens g.V.Kept.since g.V.Kept.since_same g.row.L (c.args.making + 8 * (1 + c.places-bells.result))
    (λ i. c.requires.making i + 8 * (1 + (c.places-bells.ensures.value ∙ ap (λ (n : ℕ). 2 ^ n) c.shape.ensures) i)))

pub swap_new_seat-found-requires : goal.swap_new_seat-found-requires
swap_new_seat-found-requires g c =
    let made = c.in-Ok-vacant.ensures in
    let long : length c.as_slice.result.now ≡ c.args.making + 8 * (1 + c.places-bells.result) = c.as_slice.ensures.len ∙ c.in-Ok.ensures.len in
    let wide : c.in-Ok-vacant.table.shared.table_id.words ≡ c.args.making + 8 * (1 + c.places-bells.result) = made.0 ∙ long in (
      omega arith,
      subst (λ (key : ℕ). Arrives (Rule g.V.Kept.since key) c.in-Ok-vacant.table.shared.table_id.slots c.args.making
          (λ _. 1) (λ found me. BeginsMaking found me)) (sym made.5)
          (begins g.V.Kept.since g.V.Kept.since_same g.row.L c.in-Ok-vacant.table.shared.table_id.slots c.args.making
          c.requires.making),
    )
