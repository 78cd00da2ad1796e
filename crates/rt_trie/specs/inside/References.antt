-- Lists of references, by the values that they point to.
use Rattle.std.specs.Prelude.{ℕ, zero, suc, List, [], ◌∷◌, Option, Some, None}
use Rattle.std.specs.Borrow.{Bor}

-- the value that the reference at an index points to
abbrev pub link_at : {X : Type 0} → List (Bor X) → ℕ → Option X
link_at [] k = None
link_at (x ∷ xs) zero = Some x.now
link_at (x ∷ xs) (suc k) = link_at xs k
