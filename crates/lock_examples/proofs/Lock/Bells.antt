-- Examples of what seats know of bells, and of the places that may be asleep.
use Rattle.std.proofs.Common.{◌≡◌, ◌⊎◌, inl, inr, ℕ, zero, suc, List, [], ◌∷◌, refl, sym, ap, subst, arith, Some, replicate, set}
use Rattle.std.specs.Prelude as std
use mathlib.Core.Option.{some, some-injective, some-ne-none}
use lib.ListN.{get_elem?}
use Rattle.atomic_table.specs.Table.{State, Me}
use Rattle.ya_core.specs.declared.process.EntryPoint.TheVariants.{E4, E7, E8, E9, E10}
use Rattle.ya_core.specs.declared.process.ExitPoint.TheVariants.{X3}
use Rattle.ya_core.specs.declared.process.Process.TheVariants.{Entering, Leaving}
use Rattle.ya_core.specs.ArbitrationTree.{number_of, count_of_words}
use Rattle.ya_lock.specs.declared.rule.View.{View}
use Rattle.ya_lock.specs.declared.rule.View.TheVariants.{Seated, Watching, Owes}
use Rattle.ya_lock.specs.Rule.{index_of, making_index, bell_index, words_in, Quiet, Vain, Debt, bell_after}
use Rattle.ya_lock.specs.Rule.{OwesRing, IsRung, NoneIsForgotten}
use Rattle.ya_lock.specs.StepEffects.{awake, paid, FindsBell}
use Rattle.ya_lock.specs.WakeUps.{EachSleeperIsRung, OwesOrHasPaid}
use Rattle.ya_lock.specs.inside.Lock.{StoresFor}

-- bell_index
a_cache_line_behind_the_making_word : bell_index 1 0 ≡ 48
unfolding making_index count_of_words bell_index
a_cache_line_behind_the_making_word = refl

-- bell_after
the_store_that_wakes_owes_a_ring : bell_after (Entering 1 (E7 0)) 1 ≡ Debt 0
the_store_that_wakes_owes_a_ring = refl

the_store_that_lets_in_owes_a_ring : bell_after (Leaving 1 (X3 1)) 2 ≡ Debt 1
the_store_that_lets_in_owes_a_ring = refl

in_vain_at_0 : bell_after (Entering 1 E8) 0 ≡ Vain
in_vain_at_0 = refl

not_in_vain_at_1 : bell_after (Entering 1 E8) 1 ≡ Quiet
not_in_vain_at_1 = refl

in_vain_at_1_where_it_waits_to_be_let_in : bell_after (Entering 1 E10) 1 ≡ Vain
in_vain_at_1_where_it_waits_to_be_let_in = refl

not_in_vain_at_2 : bell_after (Entering 1 E10) 2 ≡ Quiet
not_in_vain_at_2 = refl

nothing_by_another_access : bell_after (Entering 1 E4) 0 ≡ Quiet
nothing_by_another_access = refl

-- place 0 has looked in vain at e8, and place 1 has stored 1 in the spin word of place 0
abbrev sleeper : View ℕ
sleeper = Watching 0 (Entering 1 E8) 5 4

-- place 1 owes a ring to this place
abbrev waker : ℕ → View ℕ
waker rival = Owes 1 (Entering 1 E8) 5 4 rival

-- the spin word of place 0 is 1, and its bell is this number
abbrev pub row_with_bell : ℕ → List ℕ
row_with_bell bell = set (set (replicate 64 0) 24 1) 48 bell

-- OwesRing
it_owes_the_place_a_ring : OwesRing (waker 0) 0
it_owes_the_place_a_ring = refl

but_no_other_place : ¬ OwesRing (waker 1) 0
but_no_other_place owes = omega (arith, owes)

-- IsRung
rung_if_its_bell_is_off : IsRung 1 (row_with_bell 0) (sleeper ∷ []) 0
unfolding making_index count_of_words bell_index
rung_if_its_bell_is_off = inl (λ one. let clash : 0 ≡ 1 = one in omega (arith, clash))

rung_if_it_is_owed_a_ring : IsRung 1 (row_with_bell 1) (sleeper ∷ waker 0 ∷ []) 0
rung_if_it_is_owed_a_ring = inr (1, (waker 0, refl, refl))

not_without_a_debt_while_its_bell_is_1 : ¬ IsRung 1 (row_with_bell 1) (sleeper ∷ []) 0
unfolding making_index count_of_words bell_index
not_without_a_debt_while_its_bell_is_1 (inl off) = off refl
not_without_a_debt_while_its_bell_is_1 (inr owed) = owes_nothing owed.0 owed.1.0 owed.1.1 owed.1.2
  where
    owes_nothing : (seat : ℕ) (view : View ℕ) → get_elem? (sleeper ∷ []) seat ≡ some view → ¬ OwesRing view 0
    owes_nothing zero view at owes = subst (λ v. OwesRing v 0) (sym (some-injective sleeper view at)) owes
    owes_nothing (suc seat) view at owes = some-ne-none view (sym at)

-- NoneIsForgotten
forgotten_without_a_debt : ¬ NoneIsForgotten 1 (row_with_bell 1) (sleeper ∷ [])
unfolding words_in index_of number_of
forgotten_without_a_debt h =
    not_without_a_debt_while_its_bell_is_1 ((h 0 0 (Entering 1 E8) sleeper refl (refl, refl)).1 (λ same. cc))

-- awake
it_has_not_looked_since : awake sleeper ≡ Seated 0 (Entering 1 E8) 5 4
it_has_not_looked_since = refl

its_own_bell_pays_nothing : awake (waker 0) ≡ waker 0
its_own_bell_pays_nothing = refl

-- paid
it_owes_no_more : paid (waker 0) ≡ Seated 1 (Entering 1 E8) 5 4
it_owes_no_more = refl

-- FindsBell
it_still_owes_if_it_finds_1 : ¬ FindsBell {V = ℕ} 1 (waker 0, []) (Seated 1 (Entering 1 E8) 5 4, [])
it_still_owes_if_it_finds_1 finds =
    let same : ◌≡◌ {A = View ℕ} (Seated 1 (Entering 1 E8) 5 4) (waker 0) =
    ap (λ (me : Me (std.Option ℕ) (View ℕ)). me.0) (finds.0 refl) in cc

-- StoresFor
the_store_that_wakes : StoresFor 0 (Entering 1 (E7 0))
the_store_that_wakes = (1, inl refl)

the_store_that_lets_in : StoresFor 0 (Leaving 1 (X3 0))
the_store_that_lets_in = (1, inr refl)

not_for_another_rival : ¬ StoresFor 1 (Entering 1 (E7 0))
not_for_another_rival (level, inl is) = let past : Entering 1 (E7 0) ≡ Entering level (E7 1) = is in let same : ◌≡◌ {A = ℕ} 0 1 = cc in omega (arith, same)
not_for_another_rival (level, inr is) = let past : Entering 1 (E7 0) ≡ Leaving level (X3 1) = is in cc

not_after_it : ¬ StoresFor 0 (Entering 1 E8)
not_after_it (level, inl is) = let past : Entering 1 E8 ≡ Entering level (E7 0) = is in cc
not_after_it (level, inr is) = let past : Entering 1 E8 ≡ Leaving level (X3 0) = is in cc

-- the moment with these views, while the bell of place 0 is 1
abbrev moment : List (View ℕ) → State (std.Option ℕ) (View ℕ)
moment views = record { words = row_with_bell 1; homes = some (Some 5) ∷ []; views = views }

-- EachSleeperIsRung
no_sleeper_without_a_debt : ¬ EachSleeperIsRung (moment (sleeper ∷ [])) 1
unfolding words_in index_of number_of
no_sleeper_without_a_debt h =
    not_without_a_debt_while_its_bell_is_1 (h 0 0 (Entering 1 E8) 5 4 refl (λ same. cc))

-- place 1 after it has paid, and after it has gone on instead
abbrev has_paid : View ℕ
has_paid = Seated 1 (Entering 1 E8) 5 4

abbrev has_gone_on : View ℕ
has_gone_on = Seated 1 (Entering 1 E9) 5 5

-- OwesOrHasPaid
it_may_have_paid : OwesOrHasPaid (moment (waker 0 ∷ [])) (moment (has_paid ∷ []))
it_may_have_paid zero place process value count rival owes =
    let is : waker 0 ≡ Owes place process value count rival = some-injective (waker 0) (Owes place process value count rival) owes in
    inr (ap (λ (v : View ℕ). some (paid v)) is)
it_may_have_paid (suc seat) place process value count rival owes =
    absurd (some-ne-none (Owes place process value count rival) (sym owes))

it_has_not_gone_on : ¬ OwesOrHasPaid (moment (waker 0 ∷ [])) (moment (has_gone_on ∷ []))
it_has_not_gone_on h = neither (h 0 1 (Entering 1 E8) 5 4 0 refl)
  where
    neither : (some has_gone_on ≡ some (waker 0)) ⊎ (some has_gone_on ≡ some has_paid) → ⊥
    neither (inl owes) = let same = some-injective has_gone_on (waker 0) owes in cc
    neither (inr paid) = let same = some-injective has_gone_on has_paid paid in cc
