-- Examples of feeds that may be asleep, whatever book is lent.
use Rattle.std.proofs.Common.{◌≡◌, ◌≢◌, ◌⊎◌, inl, inr, ℕ, zero, suc, Some, List, [], ◌∷◌, refl, sym}
use mathlib.Core.Option.{some, some-injective, some-ne-none}
use lib.ListN.{get_elem?}
use Rattle.ya_core.specs.declared.process.EntryPoint.TheVariants.{E8}
use Rattle.ya_core.specs.declared.process.Process.{Process}
use Rattle.ya_core.specs.declared.process.Process.TheVariants.{Entering}
use Rattle.ya_core.specs.ArbitrationTree.{number_of, count_of_words}
use Rattle.ya_lock.specs.declared.rule.View.{View}
use Rattle.ya_lock.specs.declared.rule.View.TheVariants.{Watching, Owes}
use Rattle.ya_lock.specs.Rule.{index_of, making_index, bell_index, words_in}
use Rattle.lock_examples.proofs.Lock.Bells.{row_with_bell}
use Rattle.rt_shared.specs.declared.lent.Lent.{Lent}
use Rattle.rt_shared.specs.Moments.{Moment}
use Rattle.rt_shared.specs.WakeUps.{BellIsOff, OwesRingTo, NobodyIsForgotten}

-- the feed of place 0 has looked in vain
abbrev sleeper : Lent → View Lent
sleeper seen = Watching 0 (Entering 1 E8) seen 4

-- the feed of this place owes place 0 a ring
abbrev waker : ℕ → Lent → View Lent
waker place seen = Owes place (Entering 1 E8) seen 4 0

-- then the spin word of place 0 was set to 1, while its bell is 1
abbrev moment : Lent → List (View Lent) → Moment
moment lent views = record { words = row_with_bell 1; homes = some (Some lent) ∷ []; views = views }

-- BellIsOff
it_is_not_off_at_1 : (lent : Lent) → ¬ BellIsOff (moment lent []) 1 0
unfolding making_index count_of_words bell_index
it_is_not_off_at_1 lent off = off refl

-- OwesRingTo
the_waker_owes_it_a_ring : (lent : Lent) → OwesRingTo (moment lent (waker 1 lent ∷ [])) 1 0
the_waker_owes_it_a_ring lent = (0, (Entering 1 E8, (lent, (4, refl))))

-- NobodyIsForgotten
not_without_a_ring : (lent : Lent) → ¬ NobodyIsForgotten 1 (moment lent (sleeper lent ∷ []))
unfolding words_in index_of number_of making_index count_of_words bell_index
not_without_a_ring lent h = forgotten (h 0 (Entering 1 E8) (0, (lent, (4, refl))) (λ same. cc))
  where
    owes_nothing : (seat other : ℕ) (process : Process) (seen : Lent) (count : ℕ)
        → get_elem? (sleeper lent ∷ []) seat ≡ some (Owes other process seen count 0) → ⊥
    owes_nothing zero other process seen count at =
        let clash = some-injective (sleeper lent) (Owes other process seen count 0) at in cc
    owes_nothing (suc seat) other process seen count at = some-ne-none (Owes other process seen count 0) (sym at)

    forgotten : BellIsOff (moment lent (sleeper lent ∷ [])) 1 0
        ⊎ ((other : ℕ) × (other ≢ 0) × OwesRingTo (moment lent (sleeper lent ∷ [])) other 0) → ⊥
    forgotten (inl off) = off refl
    forgotten (inr owed) = owes_nothing owed.2.0 owed.0 owed.2.1.0 owed.2.1.1.0 owed.2.1.1.1.0 owed.2.1.1.1.1

nor_by_a_ring_of_its_own : (lent : Lent) → ¬ NobodyIsForgotten 1 (moment lent (sleeper lent ∷ waker 0 lent ∷ []))
unfolding words_in index_of number_of making_index count_of_words bell_index
nor_by_a_ring_of_its_own lent h = forgotten (h 0 (Entering 1 E8) (0, (lent, (4, refl))) (λ same. cc))
  where
    by_itself : (seat other : ℕ) (process : Process) (seen : Lent) (count : ℕ)
        → get_elem? (sleeper lent ∷ waker 0 lent ∷ []) seat ≡ some (Owes other process seen count 0) → other ≢ 0 → ⊥
    by_itself zero other process seen count at ne =
        let clash = some-injective (sleeper lent) (Owes other process seen count 0) at in cc
    by_itself (suc zero) other process seen count at ne =
        let same = some-injective (waker 0 lent) (Owes other process seen count 0) at in
        let place : 0 ≡ other = cc in ne (sym place)
    by_itself (suc (suc seat)) other process seen count at ne = some-ne-none (Owes other process seen count 0) (sym at)

    forgotten : BellIsOff (moment lent (sleeper lent ∷ waker 0 lent ∷ [])) 1 0
        ⊎ ((other : ℕ) × (other ≢ 0) × OwesRingTo (moment lent (sleeper lent ∷ waker 0 lent ∷ [])) other 0) → ⊥
    forgotten (inl off) = off refl
    forgotten (inr owed) = by_itself owed.2.0 owed.0 owed.2.1.0 owed.2.1.1.0 owed.2.1.1.1.0 owed.2.1.1.1.1 owed.1
