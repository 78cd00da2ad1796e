-- Examples of the steps of seats.
use Rattle.std.proofs.Common.{◌≡◌, ℕ, inl, inr, [], ◌∷◌, refl, ap, arith, Some, set}
use Rattle.std.specs.Prelude as std
use Rattle.std.specs.Prelude.{◌-◌, Bool, true, false, nat_lt, if◌then◌else◌}
use mathlib.Core.Option.{Option, none, some, some-injective}
use lib.ListN.{get_elem?}
use Rattle.atomic_table.specs.Table.{State, Me}
use Rattle.ya_core.specs.declared.process.EntryPoint.TheVariants.{E2}
use Rattle.ya_core.specs.declared.process.Process.TheVariants.{Idle, Entering, Inside}
use Rattle.ya_lock.specs.declared.rule.View.{View}
use Rattle.ya_lock.specs.declared.rule.View.TheVariants.{Unused, Making, Seated}
use Rattle.ya_lock.specs.DueStep.{IsReady, process_after, MovesValue, TakesStep, EachMayStep}
use Rattle.ya_lock.specs.StepEffects.{BeginsMaking}
use Rattle.ya_lock.specs.StepKinds.{HasSlot, IsContent, LeavesProcesses, IsGift}
use Rattle.ya_lock.proofs.DueSteps.{each_may_step}
use Rattle.lock_examples.proofs.Lock.LockState.{both_away, none_where_both_are_away, one_inside, raised}
use Rattle.lock_examples.proofs.Lock.Rule.{both_made, once_both_passes_were_made}

-- IsReady
with_a_value_to_leave : IsReady raised true 0 7 ((0, Some 9) ∷ [])
with_a_value_to_leave = (9, refl, omega arith)

not_without_its_slot : ¬ IsReady raised true 0 7 []
not_without_its_slot h = let slots = h.1 in cc

nor_with_one_that_is_not_inside : ¬ IsReady raised false 0 7 ((0, Some 9) ∷ [])
nor_with_one_that_is_not_inside slots = cc

-- process_after
it_has_claimed_its_leaf : process_after 1 both_made 0 Idle ≡ Entering 1 E2
it_has_claimed_its_leaf = refl

-- both passes after place 0 claimed its leaf, with the given view for the seat of place 1
abbrev once_claimed : View ℕ → State (std.Option ℕ) (View ℕ)
once_claimed other = record { words = set both_made.words 0 1; homes = both_made.homes; views = Seated 0 (Entering 1 E2) 7 1 ∷ other ∷ [] }

-- TakesStep
the_claim_is_counted : (t : State (std.Option ℕ) (View ℕ)) → TakesStep raised 1 0 0 Idle 7 0 [] both_made t
    → (value : ℕ) × (get_elem? t.views 0 ≡ some (Seated 0 (Entering 1 E2) value 1))
the_claim_is_counted t step = (step.value, step.own)

it_does_not_stay : ¬ TakesStep raised 1 0 0 Idle 7 0 [] both_made both_made
it_does_not_stay step =
    let own : some (Seated 0 Idle 7 0) ≡ some (Seated 0 (Entering 1 E2) step.value 1) = step.own in
    let same = some-injective (Seated 0 Idle 7 0) (Seated 0 (Entering 1 E2) step.value 1) own in cc

no_other_view_changes : ¬ TakesStep raised 1 0 0 Idle 7 0 [] both_made (once_claimed (Seated 1 Idle 6 0))
no_other_view_changes step =
    let other : ◌≡◌ {A = Option (View ℕ)} (some (Seated 1 Idle 6 0)) (some (Seated 1 Idle 5 0)) = step.others 1 (λ same. cc) in
    let same = some-injective (Seated 1 Idle 6 0) (Seated 1 Idle 5 0) other in cc

-- MovesValue
what_the_step_out_gives_back : MovesValue raised true false 0 7 9 ((0, Some 9) ∷ []) (none ∷ []) (some (Some 9) ∷ [])
what_the_step_out_gives_back = (refl, refl)

not_what_it_has_not_seen : ¬ MovesValue raised true false 0 7 8 ((0, Some 9) ∷ []) (none ∷ []) (some (Some 9) ∷ [])
not_what_it_has_not_seen h = let slots = h.0 in cc

what_the_step_in_takes : MovesValue raised false true 0 7 9 [] (some (Some 9) ∷ []) (none ∷ [])
what_the_step_in_takes = (omega arith, refl, refl)

-- EachMayStep
each_of_both_may_step : EachMayStep raised raised 1 both_made
each_of_both_may_step =
    each_may_step raised raised (λ place a. omega arith)
    (λ place other a b c apart since done. omega (arith, since, done)) 1 (omega arith) both_made once_both_passes_were_made

-- HasSlot
none_or_the_one_that_is_out : HasSlot {V = ℕ} [] (some (Some 7) ∷ []) × HasSlot {V = ℕ} ((0, Some 9) ∷ []) (none ∷ [])
none_or_the_one_that_is_out = (inl refl, inr (Some 9, refl, refl))

not_one_that_lies_at_home : ¬ HasSlot {V = ℕ} ((0, Some 9) ∷ []) (some (Some 7) ∷ [])
not_one_that_lies_at_home (inl nothing) = cc
not_one_that_lies_at_home (inr held) = let home = held.2 in cc

-- BeginsMaking
unused_where_it_found_1 : BeginsMaking {V = ℕ} 1 (Unused, [])
unused_where_it_found_1 = (λ none. absurd (omega (arith, none)), λ other. refl, refl)

not_the_maker_where_it_found_1 : ¬ BeginsMaking {V = ℕ} 1 (Making, [])
not_the_maker_where_it_found_1 h =
    let unused : ◌≡◌ {A = View ℕ} Making Unused = ap (λ (me : Me (std.Option ℕ) (View ℕ)). me.0) (h.1 (λ same. omega (arith, same))) in cc

-- IsContent
at_home_what_lies_there : IsContent both_away 7
at_home_what_lies_there = inl refl

and_else_what_one_inside_found : IsContent one_inside 7
and_else_what_one_inside_found = inr (0, (0, (Seated 0 Inside 7 3, refl, (refl, refl, refl))))

not_what_one_away_has_seen : ¬ IsContent both_away 5
not_what_one_away_has_seen (inl home) = let same = home in cc
not_what_one_away_has_seen (inr inside) = none_where_both_are_away inside.0 inside.1.0 5 inside.1.1

-- LeavesProcesses
not_where_one_comes_inside : ¬ LeavesProcesses both_away one_inside 1
not_where_one_comes_inside h =
    let was = (h.busy 0 0 Inside 7 (λ same. cc)).1 (Seated 0 Inside 7 3, refl, (refl, refl, refl)) in
    none_where_both_are_away 0 0 7 was

-- IsGift
not_where_there_was_content : (s t : State (std.Option ℕ) (View ℕ)) → IsContent s 7 → ¬ IsGift 1 s t 8
not_where_there_was_content s t content gift = gift.1 7 content
