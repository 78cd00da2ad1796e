-- Answers to the addresses of a list.
use Rattle.std.specs.Prelude.{List, [], ◌∷◌}

-- the answers, each replaced by what `answer` makes of it and of the address with the same index
abbrev pub answered : {X Y : Type 0} → (X → Y → Y) → List X → List Y → List Y
answered answer [] ys = ys
answered answer (x ∷ xs) [] = []
answered answer (x ∷ xs) (y ∷ ys) = answer x y ∷ answered answer xs ys
