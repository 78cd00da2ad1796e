-- A part of a list, as C sees it.
use Rattle.std.specs.Prelude.{◌≡◌, ℕ, ◌+◌, ◌<◌, ◌++◌, List, length, Option, None, Some, slice_get, map, take, drop}
use Rattle.std.specs.Option.{option_map}
use Rattle.rt_rib.specs.declared.routes.Route.{Route}
use Rattle.rt_rib.specs.declared.commands.Entry.{Entry}
use Rattle.rt_rib.specs.Places.{from_place}
use Rattle.yarib_c.specs.declared.routes.YaribRoute.{YaribRoute}
use Rattle.yarib_c.specs.declared.commands.YaribEntry.{YaribEntry}
use Rattle.yarib_c.specs.Forms.{route_as, entry_as}

-- `total` is the length of the whole list, and `shown` has its elements from index `skip` on, in this form, as far as
-- both lists reach
pub record ShowsPart {X Y : Type 0} (form : X → Y) (all : List X) (skip : ℕ) (shown : List Y) (total : ℕ) : Type 0 where
  pub counted : total ≡ length all
  pub each : (j : ℕ) → j < length shown → skip + j < length all → slice_get shown j ≡ option_map form (slice_get all (skip + j))

-- the same for routes
abbrev pub ShowsRoutes : List Route → ℕ → List YaribRoute → ℕ → Type 0
ShowsRoutes all skip shown total = ShowsPart route_as all skip shown total

-- there is a journal, and its entries are shown in this way
abbrev pub ShowsJournal : Option (List Entry) → ℕ → List YaribEntry → ℕ → Type 0
ShowsJournal None skip shown total = ⊥
ShowsJournal (Some journal) skip shown total = ShowsPart entry_as journal skip shown total

-- the numbers denote the route's position in dump order
pub record IsPlace (c : YaribRoute) (r : Route) : Type 0 where
  pub base : r.prefix.base ≡ c.base
  pub len : r.prefix.len ≡ c.len
  pub pref : r.pref ≡ c.pref
  pub feed : r.feed ≡ c.feed

-- these routes, as many as there is room for, are at the front of the list, in place of its old elements, and `used` is
-- their number
pub record PutsRoutes (routes : List Route) (old new : List YaribRoute) (used : ℕ) : Type 0 where
  pub counted : used ≡ length (take (length old) routes)
  pub put : new ≡ map route_as (take (length old) routes) ++ drop used old

-- the routes are those from this position on
pub record ShowsFrom (c : YaribRoute) (routes : List Route) (old new : List YaribRoute) (used : ℕ) : Type 0 where
  pub place : Route
  pub is : IsPlace c place
  pub puts : PutsRoutes (from_place place routes) old new used
