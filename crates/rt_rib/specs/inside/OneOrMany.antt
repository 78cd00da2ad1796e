-- The two ways to store the offers for a prefix: a single one, or a list.
use Rattle.std.specs.Prelude.{◌≤◌, List, [], ◌∷◌, length}
use Rattle.rt_rib.specs.declared.offers.Offer.{Offer}
use Rattle.rt_rib.specs.declared.offers.OneOrMany.{OneOrMany}
use Rattle.rt_rib.specs.declared.offers.OneOrMany.TheVariants.{One, Many}
use Rattle.rt_rib.specs.Maps.{IsRanked}

-- the offers, stored in either way
abbrev pub items : {A : Type 0} → OneOrMany A → List Offer
items (One offer) = offer ∷ []
items (Many offers) = offers.value.items

-- the invariant of `Offers`: a list has at least two, in order
abbrev pub IsOneOrMany : {A : Type 0} → OneOrMany A → Type 0
IsOneOrMany (One offer) = Unit {0}
IsOneOrMany (Many offers) = (2 ≤ length offers.value.items) × IsRanked offers.value.items
