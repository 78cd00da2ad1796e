-- Several tables as one: the table of all their routes.
use Rattle.std.specs.Prelude.{◌≢◌, List, [], fold}
use Rattle.std.specs.List.{AllPairs, Contains, flat_map}
use Rattle.rt_rib.specs.declared.routes.Route.{Route}
use Rattle.rt_rib.specs.Table.{put_in}

-- the table of all routes of these tables
unfoldable pub union_of : List (List Route) → List Route
union_of tables = fold (λ table r. put_in r table) [] (flat_map (λ t. t) tables)

-- no feed has routes in both tables
abbrev pub HaveNoFeedInCommon : List Route → List Route → Type 0
HaveNoFeedInCommon t u = (r s : Route) → Contains t r → Contains u s → r.feed ≢ s.feed

-- no feed has routes in two of these tables
abbrev pub AreOfDifferentFeeds : List (List Route) → Type 0
AreOfDifferentFeeds tables = AllPairs HaveNoFeedInCommon tables
