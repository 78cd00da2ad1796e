-- The process after a step of the way in or out, and its number of points ahead.
use Rattle.std.proofs.Common.{◌≡◌, ℕ, ◌+◌, ◌-◌, ◌≤◌, ◌==◌, Bool, true, false, refl, arith, ◌⊎◌, inl, inr, IsTrue}
use Rattle.std.proofs.Common.{nat_lt}
use Rattle.ya_core.specs.declared.process.EntryPoint.{EntryPoint}
use Rattle.ya_core.specs.declared.process.EntryPoint.TheVariants.{E1, E2, E3, E4, E5, E6, E7, E8, E9, E10}
use Rattle.ya_core.specs.declared.process.ExitPoint.TheVariants.{X1, X2, X3}
use Rattle.ya_core.specs.declared.process.Process.{Process}
use Rattle.ya_core.specs.declared.process.Process.TheVariants.{Idle, Entering, Inside, Leaving}
use Rattle.ya_core.specs.Steps.{next_of, entry_next, after_entry, after_exit}
use Rattle.ya_core.specs.inside.Ahead.{points_of, entry_points}
use Rattle.ya_core.specs.Fairness.{is_on_way_out}
use Rattle.ya_core.proofs.Properness.{either}

-- at a level one to ten points are ahead on the way in
pub few_points : (point : EntryPoint) → (1 ≤ entry_points point) × (entry_points point ≤ 10)
few_points E1 = (omega arith, omega arith)
few_points E2 = (omega arith, omega arith)
few_points E3 = (omega arith, omega arith)
few_points E4 = (omega arith, omega arith)
few_points (E5 rival) = (omega arith, omega arith)
few_points (E6 rival) = (omega arith, omega arith)
few_points (E7 rival) = (omega arith, omega arith)
few_points E8 = (omega arith, omega arith)
few_points E9 = (omega arith, omega arith)
few_points E10 = (omega arith, omega arith)

-- on the way out the number of points ahead doesn't depend on `begun`
pub same_points : (levels : ℕ) (x : Process) → IsTrue (is_on_way_out x) → points_of levels x false ≡ points_of levels x true
same_points levels Idle way = absurd cc
same_points levels Inside way = absurd cc
same_points levels (Entering level point) way = absurd cc
same_points levels (Leaving level point) way = refl

-- the process after a step of the way in at a level: at a point of that level, at the next level, or inside
abbrev pub Onward : ℕ → Process → Type 0
Onward level x = ((point : EntryPoint) × (x ≡ Entering level point)) ⊎ ((x ≡ Entering (level + 1) E1) ⊎ (x ≡ Inside))

won_onward : (levels level : ℕ) → Onward level (after_entry levels level)
won_onward levels level =
    either (Onward level) (nat_lt level levels) _ _ (λ _. inr (inl refl)) (λ _. inr (inr refl))

pub onward : (levels level place : ℕ) (point : EntryPoint) (value : ℕ)
    → Onward level (entry_next levels level place point value)
onward levels level place E1 value = inl (E2, refl)
onward levels level place E2 value = inl (E3, refl)
onward levels level place E3 value = inl (E4, refl)
onward levels level place E4 value =
    either (Onward level) (value == 0) _ _ (λ _. won_onward levels level) (λ _. inl (E5 (value - 1), refl))
onward levels level place (E5 rival) value =
    either (Onward level) (value == place + 1) _ _ (λ _. inl (E6 rival, refl)) (λ _. won_onward levels level)
onward levels level place (E6 rival) value =
    either (Onward level) (value == 0) _ _ (λ _. inl (E7 rival, refl)) (λ _. inl (E8, refl))
onward levels level place (E7 rival) value = inl (E8, refl)
onward levels level place E8 value =
    either (Onward level) (value == 0) _ _ (λ _. inl (E8, refl)) (λ _. inl (E9, refl))
onward levels level place E9 value =
    either (Onward level) (value == place + 1) _ _ (λ _. inl (E10, refl)) (λ _. won_onward levels level)
onward levels level place E10 value =
    either (Onward level) (value == 2) _ _ (λ _. won_onward levels level) (λ _. inl (E10, refl))

-- it is inside or on its way out
abbrev pub is_past_the_root : Process → Bool
is_past_the_root Inside = true
is_past_the_root (Leaving level point) = true
is_past_the_root _ = false

-- from there a step leads on the way out, or to idle
abbrev pub Outward : Process → Type 0
Outward x = (x ≡ Idle) ⊎ IsTrue (is_on_way_out x)

after_exit_outward : (level : ℕ) → Outward (after_exit level)
after_exit_outward level = either Outward (nat_lt 1 level) _ _ (λ _. inr refl) (λ _. inl refl)

pub outward : (levels place : ℕ) (x : Process) (value : ℕ) → IsTrue (is_past_the_root x)
    → Outward (next_of levels place x value)
outward levels place Idle value past = absurd cc
outward levels place (Entering level point) value past = absurd cc
outward levels place Inside value past = inr refl
outward levels place (Leaving level X1) value past = inr refl
outward levels place (Leaving level X2) value past =
    either Outward (value == place + 1) _ _ (λ _. after_exit_outward level) (λ _. inr refl)
outward levels place (Leaving level (X3 rival)) value past = after_exit_outward level

pub past_by_out : (x : Process) → IsTrue (is_on_way_out x) → IsTrue (is_past_the_root x)
past_by_out Idle way = absurd cc
past_by_out Inside way = absurd cc
past_by_out (Entering level point) way = absurd cc
past_by_out (Leaving level point) way = refl
