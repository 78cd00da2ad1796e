-- Two ordered lists merged.
use Rattle.std.specs.Prelude.{◌≡◌, Bool, true, if◌then◌else◌, List, [], ◌∷◌}
use Rattle.std.specs.List.{AllPairs}
use Rattle.rt_rib.specs.declared.routes.Route.{Route}
use Rattle.rt_rib.specs.Table.{precedes}
use Rattle.rt_rib.specs.LookUp.{beats}
use Rattle.rt_tables.specs.declared.merge.ListOrder.{ListOrder}
use Rattle.rt_tables.specs.declared.merge.ListOrder.TheVariants.{Dump, Matches}

-- true if the first route comes before the second in this order
abbrev pub goes_before : ListOrder → Route → Route → Bool
goes_before Dump r s = precedes r s
goes_before Matches r s = beats r s

-- the elements of both lists: always the one of the two first elements that comes before the other
abbrev pub merged : {X : Type 0} → (X → X → Bool) → List X → List X → List X
merged before [] ys = ys
merged before (x ∷ xs) [] = x ∷ xs
merged before (x ∷ xs) (y ∷ ys) = if before y x then y ∷ merged before (x ∷ xs) ys else x ∷ merged before xs (y ∷ ys)

-- each route precedes those after it
abbrev pub AreInDumpOrder : List Route → Type 0
AreInDumpOrder routes = AllPairs (λ r s. precedes r s ≡ true) routes
