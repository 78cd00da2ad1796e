-- The order of routes: the steps at which two of them are compared, each with the reason that it gives (RFC 1812,
-- section 5.2.4.3).
use Rattle.std.specs.Prelude.{ℕ, Bool, false, ◌==◌, ◌&&◌, ◌||◌, nat_lt, if◌then◌else◌, List, [], ◌∷◌, Option, Some, None}
use Rattle.rt_rib.specs.declared.offers.Offer.{Offer}
use Rattle.rt_rib.specs.declared.routes.Route.{Route}
use Rattle.rt_rib.specs.declared.routes.Reason.{Reason}
use Rattle.rt_rib.specs.declared.routes.Reason.TheVariants.{Shorter, Preference, Feed}

-- a route's offer for its prefix: the route without the prefix
abbrev pub offer_of : Route → Offer
offer_of r = record { feed = r.feed; pref = r.pref; hop = r.hop }

-- a step of a comparison: why the loser loses at it, and a number of each of the two, of which the lower one wins
abbrev pub Step : Type 0
Step = Reason × ℕ × ℕ

-- two offers for the same prefix: by preference number, then by feed number
abbrev pub policy : Offer → Offer → List Step
policy a b = (Preference, a.pref, b.pref) ∷ (Feed, a.feed, b.feed) ∷ []

-- two matches of an address: by the length of their prefixes, of which the greater one wins, then as offers
abbrev pub comparison : Route → Route → List Step
comparison r s = (Shorter, s.prefix.len, r.prefix.len) ∷ policy (offer_of r) (offer_of s)

-- true if a is below b, or equal to it and `rest` is true
abbrev pub below_then : ℕ → ℕ → Bool → Bool
below_then a b rest = nat_lt a b || (a == b && rest)

-- true if the first of the two wins: at the first step at which the numbers differ, its number is lower
abbrev pub wins : List Step → Bool
wins [] = false
wins ((why, a, b) ∷ rest) = below_then a b (wins rest)

-- the reason why the second of the two loses: that of the first step at which its number is higher, else its feed
abbrev pub loses_by : List Step → Reason
loses_by [] = Feed
loses_by ((why, a, b) ∷ rest) = if nat_lt a b then why else loses_by rest

-- the reason why the first of the two wins, if it does
abbrev pub won_by : List Step → Option Reason
won_by steps = if wins steps then Some (loses_by steps) else None
