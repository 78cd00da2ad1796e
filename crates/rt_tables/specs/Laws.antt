-- Theorems about the tables of different feeds.
use Rattle.std.specs.Prelude.{◌≡◌, ◌↔◌, List}
use Rattle.std.specs.List.{All, Contains}
use Rattle.rt_rib.specs.declared.routes.Route.{Route}
use Rattle.rt_rib.specs.Table.{IsTable}
use Rattle.rt_tables.specs.Unions.{union_of, AreOfDifferentFeeds}

-- one of the tables contains the route
abbrev pub AnyContains : List (List Route) → Route → Type 0
AnyContains tables r = (t : List Route) × Contains tables t × Contains t r

-- the union contains the routes of the tables, and no others
abbrev pub UnionHasTheirRoutes : Type 0
UnionHasTheirRoutes = (tables : List (List Route)) (r : Route) → Contains (union_of tables) r ↔ AnyContains tables r

-- the union of tables of different feeds is a table
abbrev pub UnionIsTable : Type 0
UnionIsTable = (tables : List (List Route)) → All IsTable tables → AreOfDifferentFeeds tables → IsTable (union_of tables)

-- and it is the only one that contains their routes and no others
abbrev pub OneUnion : Type 0
OneUnion =
    (tables : List (List Route)) (table : List Route) → All IsTable tables → AreOfDifferentFeeds tables → IsTable table
    → ((r : Route) → Contains table r ↔ AnyContains tables r) → table ≡ union_of tables
