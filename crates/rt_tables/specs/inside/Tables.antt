-- Tables of different feeds, and what may be selected in each of them.
use Rattle.std.specs.Prelude.{◌≡◌, ℕ, Bool, true, List, [], Option, None}
use Rattle.std.specs.List.{All}
use Rattle.rt_rib.specs.declared.routes.Hop.{Hop}
use Rattle.rt_rib.specs.declared.routes.Route.{Route}
use Rattle.rt_rib.specs.declared.selection.PrefixFilter.{PrefixFilter}
use Rattle.rt_rib.specs.declared.selection.Selection.{Selection}
use Rattle.rt_rib.specs.Table.{IsTable}
use Rattle.rt_tables.specs.Unions.{AreOfDifferentFeeds}

-- each is a table, and no feed has routes in two of them
pub record AreTables (tables : List (List Route)) : Type 0 where
  pub each : All IsTable tables
  pub differ : AreOfDifferentFeeds tables

-- the selection by these conditions
abbrev pub asked_of : PrefixFilter → Bool → List ℕ → Option Hop → Selection
asked_of part only_best feeds hop = record { part = part; only_best = only_best; feeds = record { ref_ptr = (0, 0); now = feeds }; hop = hop }

-- if the best routes are selected, then those of all feeds and next hops
abbrev pub IsBeforeFilters : Selection → Type 0
IsBeforeFilters asked = asked.only_best ≡ true → (asked.feeds.now ≡ []) × (asked.hop ≡ None)
