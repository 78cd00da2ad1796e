-- The statuses that calls return.
use Rattle.std.specs.Prelude.{◌≡◌, ℕ, ◌⊎◌, List, [], ◌∷◌}

-- if the reason applies, the status is the given one; else it is as the rest says
abbrev pub Check : Type 0 → ℕ → (ℕ → Type 0) → ℕ → Type 0
Check Reason given Rest status = (Reason × (status ≡ given)) ⊎ ((¬ Reason) × Rest status)

-- the status is one of these
abbrev pub IsOneOf : List ℕ → ℕ → Type 0
IsOneOf [] status = ⊥
IsOneOf (one ∷ []) status = status ≡ one
IsOneOf (one ∷ (next ∷ rest)) status = (status ≡ one) ⊎ IsOneOf (next ∷ rest) status
