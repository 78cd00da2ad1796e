-- Changes of the offers for a prefix.
use Rattle.std.specs.Prelude.{◌≡◌, ℕ, ◌≤◌, ◌+◌, Bool, true, false, not, List, [], ◌∷◌, length, filter, ◌⊎◌, ◌↔◌}
use Rattle.std.specs.List.{AllWithin, Contains, list_any}
use Rattle.rt_rib.specs.declared.offers.Offer.{Offer}
use Rattle.rt_rib.specs.declared.offers.Removal.{Removal}
use Rattle.rt_rib.specs.declared.offers.Removal.TheVariants.{Missing, Last, Gone}
use Rattle.rt_rib.specs.Maps.{outranks, is_from}

-- the index at which the offer belongs: those before the index outrank it, and no others do
pub record IsInsertionIndex (offer : Offer) (offers : List Offer) (index : ℕ) : Type 0 where
  pub within : index ≤ length offers
  pub before : AllWithin (λ o. outranks o offer ≡ true) offers 0 index
  pub behind : AllWithin (λ o. outranks o offer ≡ false) offers index (length offers)

-- the new offers are the old ones and this one
abbrev pub HasGained : List Offer → List Offer → Offer → Type 0
HasGained old new offer = (o : Offer) → Contains new o ↔ (Contains old o ⊎ (offer ≡ o))

-- the offers except the feed's
abbrev pub without : ℕ → List Offer → List Offer
without feed offers = filter (λ o. not (is_from feed o)) offers

-- the offers after a replacement, and whether the feed had an offer: if so, the new one replaces it; if not, the offers
-- are unchanged
abbrev pub HasSwapped : List Offer → List Offer → Offer → Bool → Type 0
HasSwapped old new offer false = new ≡ old
HasSwapped old new offer true =
    (o : Offer) → Contains new o ↔ ((Contains old o × (is_from offer.feed o ≡ false)) ⊎ (offer ≡ o))

-- the offers after a removal: the feed had none, and they are unchanged; the feed had the only one, which stays; or its
-- offer is gone
abbrev pub TakesOut : List Offer → List Offer → ℕ → Removal → Type 0
TakesOut old new feed Missing = (new ≡ old) × (list_any (is_from feed) old ≡ false)
TakesOut old new feed Last = (new ≡ old) × ((o : Offer) × (old ≡ o ∷ []) × (is_from feed o ≡ true))
TakesOut old new feed Gone = (new ≡ without feed old) × (list_any (is_from feed) old ≡ true) × (length new + 1 ≡ length old)
