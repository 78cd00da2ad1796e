-- Properties by case distinction.
use Rattle.std.proofs.Common.{◌≡◌, ◌≢◌, ℕ, ◌==◌, Bool, true, false, refl, arith, sym, subst, ◌⊎◌, inl, inr}
use Rattle.std.proofs.lemmas.Bool.Decides.{nat_tests}
use Rattle.ya_core.specs.declared.process.EntryPoint.{EntryPoint}
use Rattle.ya_core.specs.declared.process.EntryPoint.TheVariants.{E1, E2, E3, E4, E5, E6, E7, E8, E9, E10}

-- if the second case is refuted, the first one holds
pub the_first : {A B : Type 0} → A ⊎ B → (B → ⊥) → A
the_first (inl a) none = a
the_first (inr b) none = absurd (none b)

pub the_second : {A B : Type 0} → A ⊎ B → (A → ⊥) → B
the_second (inl a) none = absurd (none a)
the_second (inr b) none = b

-- a property of this place and of each other place holds for each place
pub everywhere : (A : ℕ → Type 0) (p : ℕ) → A p → ((q : ℕ) → q ≢ p → A q) → (q : ℕ) → A q
everywhere A p own others q = cases (q == p) refl
  where
    cases : (b : Bool) → (q == p) ≡ b → A q
    cases true is = let same : q ≡ p = grind (arith, nat_tests) in subst A (sym same) own
    cases false is = others q (grind (arith, nat_tests))

-- a property of each other place holds for any place, unless it is this place
pub or_else : (A : ℕ → Type 0) (p : ℕ) → ((q : ℕ) → q ≢ p → A q) → (q : ℕ) → (q ≡ p) ⊎ A q
or_else A p others = everywhere (λ q. (q ≡ p) ⊎ A q) p (inl refl) (λ q apart. inr (others q apart))

-- a property of each of the ten points of the way in holds for any point
pub each_point : (A : EntryPoint → Type 0) → A E1 → A E2 → A E3 → A E4 → ((rival : ℕ) → A (E5 rival))
    → ((rival : ℕ) → A (E6 rival)) → ((rival : ℕ) → A (E7 rival)) → A E8 → A E9 → A E10 → (point : EntryPoint)
    → A point
each_point A e1 e2 e3 e4 e5 e6 e7 e8 e9 e10 E1 = e1
each_point A e1 e2 e3 e4 e5 e6 e7 e8 e9 e10 E2 = e2
each_point A e1 e2 e3 e4 e5 e6 e7 e8 e9 e10 E3 = e3
each_point A e1 e2 e3 e4 e5 e6 e7 e8 e9 e10 E4 = e4
each_point A e1 e2 e3 e4 e5 e6 e7 e8 e9 e10 (E5 rival) = e5 rival
each_point A e1 e2 e3 e4 e5 e6 e7 e8 e9 e10 (E6 rival) = e6 rival
each_point A e1 e2 e3 e4 e5 e6 e7 e8 e9 e10 (E7 rival) = e7 rival
each_point A e1 e2 e3 e4 e5 e6 e7 e8 e9 e10 E8 = e8
each_point A e1 e2 e3 e4 e5 e6 e7 e8 e9 e10 E9 = e9
each_point A e1 e2 e3 e4 e5 e6 e7 e8 e9 e10 E10 = e10
