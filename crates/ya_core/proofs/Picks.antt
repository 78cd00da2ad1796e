-- The effect of a pick of a schedule, of a place or of none.
use Rattle.std.proofs.Common.{◌≡◌, ◌≢◌, ℕ, ◌≤◌, ◌==◌, Bool, true, false, refl, arith, ap, sym, subst, ◌⊎◌, inl, inr, IsTrue}
use Rattle.std.proofs.lemmas.Bool.Decides.{nat_tests}
use Rattle.std.specs.Prelude.{Option, Some, None}
use Rattle.ya_core.specs.ArbitrationTree.{AreRivals}
use Rattle.ya_core.specs.Steps.{State, StepsTo}
use Rattle.ya_core.specs.Soundness.{phase_of, IsSoundState}
use Rattle.ya_core.specs.Fairness.{PickLeadsTo}
use Rattle.ya_core.proofs.PhaseKinds.{competes}
use Rattle.ya_core.proofs.Invariant.{keeps}
use Rattle.ya_core.proofs.Deadlock.{IsStuck}
use Rattle.ya_core.proofs.Rivalry.{stands_still, stuck_before, still_competes}

-- a place is picked, or it isn't
pub is_picked : (pick : Option ℕ) (p : ℕ) → (pick ≡ Some p) ⊎ (pick ≢ Some p)
is_picked None p = inr (λ e. cc)
is_picked (Some q) p = by_test (q == p) refl
  where
    by_test : (b : Bool) → (q == p) ≡ b → (Some q ≡ Some p) ⊎ (Some q ≢ Some p)
    by_test true is = inl (ap Some (let same : q ≡ p = grind (arith, nat_tests) in same))
    by_test false is = inr (λ e. (let apart : q ≢ p = grind (arith, nat_tests) in apart) (let same : q ≡ p = cc in same))

-- a picked place steps, and any other place keeps its process
pub picked_steps : (levels : ℕ) (pick : Option ℕ) (s t : State) (p : ℕ) → PickLeadsTo levels pick s t → pick ≡ Some p
    → StepsTo levels p s t
picked_steps levels pick s t p leads picks = subst (λ o. PickLeadsTo levels o s t) picks leads

pub others_stay : (levels : ℕ) (pick : Option ℕ) (s t : State) (p : ℕ) → PickLeadsTo levels pick s t → pick ≢ Some p
    → t.processes p ≡ s.processes p
others_stay levels None s t p leads other = ap (λ u. u.processes p) leads
others_stay levels (Some q) s t p leads other = leads.others p (λ same. other (ap Some (sym same)))

module _ (levels : ℕ) (some : 1 ≤ levels) where
  -- a sound state stays sound
  pub pick_keeps : (pick : Option ℕ) (s t : State) → PickLeadsTo levels pick s t → IsSoundState levels s
      → IsSoundState levels t
  pick_keeps None s t leads is = subst (IsSoundState levels) (sym leads) is
  pick_keeps (Some q) s t leads is = keeps levels q s t some is leads

  -- a place that is stuck keeps its process
  pub stuck_stays : (pick : Option ℕ) (s t : State) → PickLeadsTo levels pick s t → IsSoundState levels s
      → IsSoundState levels t → (p level : ℕ) → IsStuck s p level → t.processes p ≡ s.processes p
  stuck_stays None s t leads is sound p level stuck = ap (λ u. u.processes p) leads
  stuck_stays (Some q) s t leads is sound p level stuck = stands_still levels some s is q t leads sound p level stuck

  -- a place that is stuck and wasn't picked was stuck before
  pub was_stuck : (pick : Option ℕ) (s t : State) → PickLeadsTo levels pick s t → IsSoundState levels s
      → IsSoundState levels t → (p level : ℕ) → pick ≢ Some p → IsStuck t p level → IsStuck s p level
  was_stuck None s t leads is sound p level other stuck = subst (λ u. IsStuck u p level) leads stuck
  was_stuck (Some q) s t leads is sound p level other stuck =
      stuck_before levels some s is q t leads sound p level (λ same. other (ap Some same)) stuck

  -- the competing rival stays the same while the place is stuck
  pub rival_stays : (pick : Option ℕ) (s t : State) → PickLeadsTo levels pick s t → IsSoundState levels s
      → IsSoundState levels t → (p level q : ℕ) → IsStuck t p level → AreRivals level p q
      → IsTrue (competes (phase_of levels level (s.processes q)))
      → IsTrue (competes (phase_of levels level (t.processes q)))
  rival_stays None s t leads is sound p level q stuck rivals competing =
      subst (λ u. IsTrue (competes (phase_of levels level (u.processes q)))) (sym leads) competing
  rival_stays (Some r) s t leads is sound p level q stuck rivals competing =
      still_competes levels some s is r t leads sound p level q stuck rivals competing
