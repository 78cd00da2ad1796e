-- Two answers are equal or not.
use Rattle.std.proofs.Common.{◌≡◌, ◌⊎◌, inl, inr, refl, ap}
use Rattle.std.proofs.lemmas.Bool.{cases_eq}
use Rattle.std.specs.Coded.{Coded}
use base.Stored.{Gv, gnil, gnum, gcons}
use Rattle.rt_diff.specs.declared.table_answers.TableAnswer.{TableAnswer}
use Rattle.rt_diff.specs.contracts.table_answers.TableAnswer as answer

-- two codes are equal or not
code_cases : (a b : Gv) → (a ≡ b) ⊎ (a ≡ b → ⊥)
code_cases gnil gnil = inl refl
code_cases gnil (gnum n) = inr (λ e. cc)
code_cases gnil (gcons a b) = inr (λ e. cc)
code_cases (gnum m) gnil = inr (λ e. cc)
code_cases (gnum m) (gnum n) = elim (cases_eq m n) [
  | inl same ↦ inl (ap gnum same)
  | inr other ↦ inr (λ e. let same : m ≡ n = cc in other same)
]
code_cases (gnum m) (gcons a b) = inr (λ e. cc)
code_cases (gcons a b) gnil = inr (λ e. cc)
code_cases (gcons a b) (gnum n) = inr (λ e. cc)
code_cases (gcons a b) (gcons c d) = elim (code_cases a c) [
  | inl first ↦ elim (code_cases b d) [
    | inl second ↦ inl (λ i. gcons (first i) (second i))
    | inr other ↦ inr (λ e. let same : b ≡ d = cc in other same)
  ]
  | inr other ↦ inr (λ e. let same : a ≡ c = cc in other same)
]

-- two values of a type that has codes are equal or not
coded_cases : {A : Type 0} → Coded A → (x y : A) → (x ≡ y) ⊎ (x ≡ y → ⊥)
coded_cases c x y = elim (code_cases (c.code x) (c.code y)) [
  | inl same ↦ inl (c.inj x y same)
  | inr other ↦ inr (λ e. other (ap c.code e))
]

-- two answers are equal or not
pub answer_cases : (x y : TableAnswer) → (x ≡ y) ⊎ (x ≡ y → ⊥)
answer_cases = coded_cases answer.the_row.coded
