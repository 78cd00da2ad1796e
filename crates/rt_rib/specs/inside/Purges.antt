-- The effect of a purge on the offers of a prefix that it is shown.
use Rattle.std.specs.Prelude.{◌≡◌, ◌+◌, Bool, true, false, nat_eq, List, [], count_by}
use Rattle.rt_rib.specs.declared.offers.Offer.{Offer}
use Rattle.rt_rib.specs.declared.purge.Purging.{Purging}
use Rattle.rt_rib.specs.Maps.{is_from, IsOffers}
use Rattle.rt_rib.specs.inside.Offers.{without}

-- true if no route of the feed remains
abbrev pub is_over : Purging → Bool
is_over purge = nat_eq purge.remaining 0

-- the decision on a prefix, given the offers of the other feeds: it stays with just these, or is removed if there are
-- none
abbrev pub AreOthers : List Offer → List Offer → Bool → Type 0
AreOthers others new true = (new ≡ others) × IsOffers new
AreOthers others new false = others ≡ []

-- the purge continues for the same feed, and the number of its remaining routes is lower by those of this prefix, which
-- are gone
pub record IsPurged (purge next : Purging) (old new : List Offer) (stays : Bool) : Type 0 where
  pub same_feed : next.feed ≡ purge.feed
  pub fewer : next.remaining + count_by (is_from purge.feed) old ≡ purge.remaining
  pub others : AreOthers (without purge.feed old) new stays
