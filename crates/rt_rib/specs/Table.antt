-- The table: a finite set of routes, no two of the same prefix and feed. A list of routes represents the set of its
-- elements, and dump order makes that list unique.
use Rattle.std.specs.Prelude.{◌≡◌, ℕ, Bool, true, false, not, ◌==◌, ◌&&◌, List, ◌∷◌, ◌++◌, filter, count_by}
use Rattle.std.specs.List.{list_any, AllPairs}
use Rattle.rt_cidr.specs.declared.prefixes.Prefix.{Prefix}
use Rattle.rt_cidr.specs.Prefix.{same_prefix}
use Rattle.rt_rib.specs.declared.routes.Route.{Route}
use Rattle.rt_rib.specs.Order.{offer_of, policy, below_then, wins}

-- true if the route is this feed's to this prefix
abbrev pub is_of : ℕ → Prefix → Route → Bool
is_of feed prefix r = r.feed == feed && same_prefix r.prefix prefix

-- true if the feed has a route to this prefix
abbrev pub has : ℕ → Prefix → List Route → Bool
has feed prefix table = list_any (is_of feed prefix) table

-- the number of the feed's routes
abbrev pub count_of : ℕ → List Route → ℕ
count_of feed table = count_by (λ r. r.feed == feed) table

-- true if r has a lower preference number, or the same one and a lower feed number
abbrev pub is_better : Route → Route → Bool
is_better r s = wins (policy (offer_of r) (offer_of s))

-- dump order: by base, then length, then preference, then feed
abbrev pub precedes : Route → Route → Bool
precedes r s = below_then r.prefix.base s.prefix.base (below_then r.prefix.len s.prefix.len (is_better r s))

-- the route inserted: the routes that precede it, the route, and the others
abbrev pub put_in : Route → List Route → List Route
put_in r table = filter (λ s. precedes s r) table ++ r ∷ filter (λ s. not (precedes s r)) table

-- a feed's route to a prefix removed: all others stay
abbrev pub take_out : ℕ → Prefix → List Route → List Route
take_out feed prefix table = filter (λ r. not (is_of feed prefix r)) table

-- all of a feed's routes removed: those of other feeds stay
abbrev pub purge : ℕ → List Route → List Route
purge feed table = filter (λ r. not (r.feed == feed)) table

-- the routes are in dump order, and no two are of the same feed and prefix
pub record IsTable (table : List Route) : Type 0 where
  pub ordered : AllPairs (λ r s. precedes r s ≡ true) table
  pub single : AllPairs (λ r s. is_of s.feed s.prefix r ≡ false) table
