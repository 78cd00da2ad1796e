-- Runs of a fair schedule: a property that each step keeps or ends does end, if each step of a certain place brings
-- that place nearer to an end.
use Rattle.std.proofs.Common.{◌≡◌, ◌≢◌, ℕ, zero, suc, ◌+◌, ◌-◌, ◌<◌, ◌≤◌, arith, ap, subst, ◌⊎◌, inl, inr}
use Rattle.std.specs.Prelude.{Option, Some}
use Rattle.ya_core.specs.declared.process.Process.{Process}
use Rattle.ya_core.specs.declared.process.Process.TheVariants.{Idle}
use Rattle.ya_core.specs.Steps.{State}
use Rattle.ya_core.specs.Fairness.{PickLeadsTo, Eventually}
use Rattle.ya_core.proofs.Picks.{is_picked, others_stay}

-- a property of a time later than this one holds at a time later than an earlier one
pub sooner : (So : ℕ → Type 0) (time later : ℕ) → time ≤ later → Eventually later So → Eventually time So
sooner So time later less found = (found.0, omega (arith, less, found.1), found.2)

-- a property that each step keeps or ends holds at a later time, or has ended before
pub until : (While So : ℕ → Type 0) → ((n : ℕ) → While n → So (n + 1) ⊎ While (n + 1)) → (d n m : ℕ) → m ≡ n + d
    → While n → Eventually n So ⊎ While m
until While So keeps zero n m e holds = inr (subst While (let same : n ≡ m = omega (arith, e) in same) holds)
until While So keeps (suc d) n m e holds =
    by_step (keeps n holds) (λ holds. until While So keeps d (n + 1) m (omega (arith, e)) holds)
  where
    by_step : So (n + 1) ⊎ While (n + 1) → (While (n + 1) → Eventually (n + 1) So ⊎ While m)
        → Eventually n So ⊎ While m
    by_step (inl ends) rest = inl (n + 1, omega arith, ends)
    by_step (inr goes) rest = by_rest (rest goes)
      where
        by_rest : Eventually (n + 1) So ⊎ While m → Eventually n So ⊎ While m
        by_rest (inl found) = inl (sooner So n (n + 1) (omega arith) found)
        by_rest (inr holds) = inr holds

module _ (levels : ℕ) (schedule : ℕ → Option ℕ) (states : ℕ → State)
    (step : (time : ℕ) → PickLeadsTo levels (schedule time) (states time) (states (time + 1)))
    (fair : (place time : ℕ) → (states time).processes place ≢ Idle
    → Eventually time (λ later. schedule later ≡ Some place)) where
  -- the process of a place at a time
  abbrev at : ℕ → ℕ → Process
  at place time = (states time).processes place

  -- the property that each step keeps or ends does end, if each step of place `q` brings `q` nearer
  module _ (q : ℕ) (While So : ℕ → Type 0) (points : Process → ℕ) (busy : (n : ℕ) → While n → at q n ≢ Idle)
      (keeps : (n : ℕ) → While n → So (n + 1) ⊎ While (n + 1))
      (falls : (n : ℕ) → While n → While (n + 1) → schedule n ≡ Some q → points (at q (n + 1)) < points (at q n)) where
    -- up to its next step
    to_step : (fuel : ℕ) → ((n : ℕ) → points (at q n) < fuel → While n → Eventually n So) → (d n m : ℕ) → m ≡ n + d
        → schedule m ≡ Some q → points (at q n) < fuel + 1 → While n → Eventually n So
    to_step fuel again zero n m e picks less holds =
        by_step (keeps n holds)
      where
        by_step : So (n + 1) ⊎ While (n + 1) → Eventually n So
        by_step (inl ends) = (n + 1, omega arith, ends)
        by_step (inr goes) =
            let same : m ≡ n = omega (arith, e) in
            let now : schedule n ≡ Some q = subst (λ k. schedule k ≡ Some q) same picks in
            let nearer = falls n holds goes now in
            sooner So n (n + 1) (omega arith) (again (n + 1) (omega (arith, nearer, less)) goes)
    to_step fuel again (suc d) n m e picks less holds =
        by_step (keeps n holds) (λ less goes. to_step fuel again d (n + 1) m (omega (arith, e)) picks less goes)
      where
        by_step : So (n + 1) ⊎ While (n + 1)
            → (points (at q (n + 1)) < fuel + 1 → While (n + 1) → Eventually (n + 1) So) → Eventually n So
        by_step (inl ends) rest = (n + 1, omega arith, ends)
        by_step (inr goes) rest = sooner So n (n + 1) (omega arith) (by_place (is_picked (schedule n) q))
          where
            by_place : (schedule n ≡ Some q) ⊎ (schedule n ≢ Some q) → Eventually (n + 1) So
            by_place (inl now) =
                let nearer = falls n holds goes now in again (n + 1) (omega (arith, nearer, less)) goes
            by_place (inr other) =
                let same : points (at q (n + 1)) ≡ points (at q n) =
                ap points (others_stay levels (schedule n) (states n) (states (n + 1)) q (step n) other) in
                rest (omega (arith, same, less)) goes

    within : (fuel n : ℕ) → points (at q n) < fuel → While n → Eventually n So
    within zero n less holds = absurd (omega (arith, less))
    within (suc fuel) n less holds =
        let next = fair q n (busy n holds) in
        to_step fuel (λ n less holds. within fuel n less holds) (next.0 - n) n next.0 (omega (arith, next.1)) next.2
        (omega (arith, less)) holds

    pub ends : (n : ℕ) → While n → Eventually n So
    ends n holds = within (points (at q n) + 1) n (omega arith) holds
