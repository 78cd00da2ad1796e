-- A part of a list, filled element by element while the list is visited.
use Rattle.std.proofs.Common.{◌≡◌, ℕ, zero, suc, ◌+◌, ◌-◌, ◌<◌, ◌≤◌, List, [], ◌∷◌, length, drop, set, length-set, inl, inr, refl, ap, sym, ◌∙◌, arith}
use Rattle.std.specs.Prelude.{Option, Some, None, slice_get}
use Rattle.std.specs.Option.{option_map}
use Rattle.std.proofs.lemmas.Bool.{cases_lt}

-- what is written at an index is there
set_there : {Y : Type 0} (ys : List Y) (k : ℕ) (y : Y) → k < length ys → slice_get (set ys k y) k ≡ Some y
set_there [] k y l = absurd (omega arith)
set_there (z ∷ ys) zero y l = refl
set_there (z ∷ ys) (suc k) y l = set_there ys k y (omega arith)

-- all other elements stay
set_others : {Y : Type 0} (ys : List Y) (k j : ℕ) (y : Y) → (j ≡ k → ⊥) → slice_get (set ys k y) j ≡ slice_get ys j
set_others [] k j y other = refl
set_others (z ∷ ys) zero zero y other = absurd (other refl)
set_others (z ∷ ys) zero (suc j) y other = refl
set_others (z ∷ ys) (suc k) zero y other = refl
set_others (z ∷ ys) (suc k) (suc j) y other = set_others ys k j y (λ e. other (ap suc e))

-- the first element that is still to be visited
pub next_is : {X : Type 0} (all : List X) (total : ℕ) (x : X) (rest : List X) → drop total all ≡ x ∷ rest
    → (slice_get all total ≡ Some x) × (drop (suc total) all ≡ rest)
next_is [] zero x rest e = cc
next_is [] (suc total) x rest e = cc
next_is (y ∷ ys) zero x rest e = (cc, cc)
next_is (y ∷ ys) (suc total) x rest e = next_is ys total x rest e

-- the elements after it
pub next_rest : {X : Type 0} (all : List X) (total n : ℕ) (x : X) (rest : List X) → drop total all ≡ x ∷ rest → n ≡ suc total → rest ≡ drop n all
next_rest all total n x rest e more = rw more (sym (next_is all total x rest e).1)

module _ {X Y : Type 0} (form : X → Y) (all : List X) (skip : ℕ) where
  -- the visited elements from index `skip` on are in their places, as far as these reach
  abbrev pub IsShown : ℕ → List Y → Type 0
  IsShown total places = (j : ℕ) → j < length places → skip + j < total → slice_get places j ≡ option_map form (slice_get all (skip + j))

  -- one more, in its place
  pub shown_put : (places : List Y) (total : ℕ) (x : X) (rest : List X) → drop total all ≡ x ∷ rest → skip ≤ total → total - skip < length places
      → IsShown total places → IsShown (total + 1) (set places (total - skip) (form x))
  shown_put places total x rest e from room shown j below seen =
      let long = length-set places (total - skip) (form x) in
      elim (cases_lt (skip + j) total) [
        | inl less ↦
            set_others places (total - skip) j (form x) (λ same. omega (arith, same, less, from))
            ∙ shown j (omega (arith, below, long)) less
        | inr more ↦
            let at : j ≡ total - skip = omega (arith, more, seen, from) in
            let here : skip + j ≡ total = omega (arith, more, seen) in
            ap (slice_get (set places (total - skip) (form x))) at ∙ set_there places (total - skip) (form x) room
            ∙ sym (ap (option_map form) (ap (slice_get all) here ∙ (next_is all total x rest e).0))
      ]

  -- one more, which has no place
  pub shown_skip : (places : List Y) (total : ℕ) → (skip ≤ total → total - skip < length places → ⊥) → IsShown total places
      → IsShown (total + 1) places
  shown_skip places total none shown j below seen = elim (cases_lt (skip + j) total) [
    | inl less ↦ shown j below less
    | inr more ↦ absurd (none (omega (arith, more, seen)) (omega (arith, more, seen, below)))
  ]
