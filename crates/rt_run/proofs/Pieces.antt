-- The rows of a list, written piece by piece: those so far, and then those of the rest.
use Rattle.std.proofs.Common.{◌≡◌, ℕ, ◌+◌, List, ◌++◌, Option, take, drop, append_assoc, take-append-drop, refl}
use Rattle.std.specs.List.{flat_map}
use Rattle.std.proofs.Math.Seq.{take-add}
use Rattle.std.proofs.lemmas.Grind.{flat_map-append}
use Rattle.std.specs.Io.KnownBytes.{Appends}
use Rattle.rt_cidr.specs.Output.{AppendsBeginning}
use Rattle.rt_cidr.proofs.Promised.{begins_after, begins_longer}

module _ {X : Type 0} (row : X → List ℕ) (all rest piece behind : List X) (text : List ℕ)
    (whole : text ++ flat_map row rest ≡ flat_map row all) (cut : rest ≡ piece ++ behind) where
  -- the rows of a piece follow the text so far
  pub rows_grow : (text ++ flat_map row piece) ++ flat_map row behind ≡ flat_map row all
  rows_grow = rw (append_assoc, ← (flat_map-append row piece behind), ← cut) whole

  -- a fault within them leaves a beginning of all rows
  pub rows_begin : (a b c : Option (List ℕ)) → Appends a b text → AppendsBeginning b c (flat_map row piece) → AppendsBeginning a c (flat_map row all)
  rows_begin a b c written begun =
      rw (← rows_grow) (begins_longer a c (text ++ flat_map row piece) (flat_map row behind) (begins_after a b c text (flat_map row piece) written begun))

-- the rows so far, and those of the rest
pub rows_split : {X : Type 0} (row : X → List ℕ) (n : ℕ) (xs : List X) → flat_map row (take n xs) ++ flat_map row (drop n xs) ≡ flat_map row xs
rows_split row n xs = rw (← (flat_map-append row (take n xs) (drop n xs)), take-append-drop n xs) refl

-- the rows of the first items, and of those that follow them
pub rows_next : {X : Type 0} (row : X → List ℕ) (n m : ℕ) (xs : List X)
    → flat_map row (take (n + m) xs) ≡ flat_map row (take n xs) ++ flat_map row (take m (drop n xs))
rows_next row n m xs = rw (take-add n m xs, flat_map-append row (take n xs) (take m (drop n xs))) refl
