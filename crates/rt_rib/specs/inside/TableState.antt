-- The invariants of the types `Table` and `Book`.
use Rattle.std.specs.Prelude.{◌≡◌, ℕ, ◌+◌, ◌<◌, ◌≤◌, List, length, sum, slice_index}
use Rattle.std.specs.List.{All}
use Rattle.rt_rib.specs.declared.routes.Route.{Route}
use Rattle.rt_rib.specs.declared.commands.Entry.{Entry}
use Rattle.rt_rib.specs.declared.limits.TheConstants.{MAX_FEEDS}
use Rattle.rt_rib.specs.Table.{count_of, IsTable}
use Rattle.rt_rib.specs.Maps.{Map, routes_of}
use Rattle.rt_rib.specs.Sequential.{table_of_journal, IsLawfulJournal}
use Rattle.rt_rib.specs.Book.{IsLimit, IsFeed, TableState}

-- the number of each feed's routes, at most the limit; these are all routes
pub record AreCounts (limit : ℕ) (counts : List ℕ) (routes : List Route) : Type 0 where
  pub many : length counts ≡ MAX_FEEDS
  pub each : (i : ℕ) → i < MAX_FEEDS → slice_index counts i ≡ count_of (i + 1) routes
  pub within : (i : ℕ) → i < MAX_FEEDS → slice_index counts i ≤ limit
  pub all : sum counts ≡ length routes

-- the invariant of `Table`: a valid limit, a map whose routes are a table, and its counts
pub record IsCounted (limit : ℕ) (counts : List ℕ) (m : Map) : Type 0 where
  pub limited : IsLimit limit
  pub table : IsTable (routes_of m)
  pub counted : AreCounts limit counts (routes_of m)

-- the invariant of `Book`: the journal is lawful, its entries are of valid feeds, and the routes are those that it
-- leaves
pub record IsJournalOf (state : TableState) (journal : List Entry) : Type 0 where
  pub feeds : All (λ e. IsFeed e.feed) journal
  pub lawful : IsLawfulJournal state.limit journal
  pub routes : state.routes ≡ table_of_journal state.limit journal
