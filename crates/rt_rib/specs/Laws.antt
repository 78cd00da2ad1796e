-- Theorems about every set of routes and every journal.
use Rattle.std.specs.Prelude.{◌≡◌, ℕ, ◌≤◌, Bool, true, false, Some, None, ◌==◌, ◌⊎◌, ◌↔◌, List, [], ◌∷◌, ◌++◌, map, filter, slice_get}
use Rattle.std.specs.List.{AllPairs, Contains}
use Rattle.rt_cidr.specs.declared.address.Addr.{Addr}
use Rattle.rt_cidr.specs.Prefix.{covers, same_prefix}
use Rattle.rt_cidr.specs.declared.prefixes.Prefix.{Prefix}
use Rattle.rt_rib.specs.declared.routes.Route.{Route}
use Rattle.rt_rib.specs.declared.commands.Cmd.{Cmd}
use Rattle.rt_rib.specs.declared.commands.Entry.{Entry}
use Rattle.rt_rib.specs.Table.{is_better, is_of, put_in, take_out, IsTable}
use Rattle.rt_rib.specs.declared.commands.Cmd.TheVariants.{Lookup, Dump}
use Rattle.rt_rib.specs.LookUp.{look_up, beats, look_up_all, best_routes}
use Rattle.rt_rib.specs.Sequential.{reply_of, table_after, table_of_journal, IsAnswered, IsLawfulJournal}

-- after an insertion, the set contains its old routes and the new one
abbrev pub PutInAdds : Type 0
PutInAdds = (r x : Route) (table : List Route) → Contains (put_in r table) x ↔ (Contains table x ⊎ (r ≡ x))

-- after a removal, the set contains its old routes except the feed's to the prefix
abbrev pub TakeOutLeavesOthers : Type 0
TakeOutLeavesOthers =
    (feed : ℕ) (prefix : Prefix) (x : Route) (table : List Route) → Contains (take_out feed prefix table) x ↔ (Contains table x × (is_of feed prefix x ≡ false))

-- a set has only one table
abbrev pub OneTableOfSet : Type 0
OneTableOfSet = (t u : List Route) → IsTable t → IsTable u → ((x : Route) → Contains t x ↔ Contains u x) → t ≡ u

-- the set contains the route, its prefix covers the address, no longer one does, and no route of that length that
-- covers the address is better
pub record IsBestMatch (addr : Addr) (table : List Route) (r : Route) : Type 0 where
  pub contained : Contains table r
  pub covering : covers r.prefix addr ≡ true
  pub longest : (s : Route) → Contains table s → covers s.prefix addr ≡ true → s.prefix.len ≤ r.prefix.len
  pub best : (s : Route) → Contains table s → covers s.prefix addr ≡ true → s.prefix.len ≡ r.prefix.len → is_better s r ≡ false

-- a look-up finds exactly the best match, and finds nothing if and only if no prefix covers the address
abbrev pub LookUpFindsBest : Type 0
LookUpFindsBest =
    (addr : Addr) (table : List Route) → IsTable table → ((r : Route) → (look_up addr table ≡ Some r) ↔ IsBestMatch addr table r)
    × ((look_up addr table ≡ None) ↔ ((s : Route) → Contains table s → covers s.prefix addr ≡ false))

-- the list contains exactly the routes of the set whose prefix covers the address, and each beats those after it, so
-- none is listed twice
pub record AreAllMatches (addr : Addr) (table matches : List Route) : Type 0 where
  pub exactly : (r : Route) → Contains matches r ↔ (Contains table r × (covers r.prefix addr ≡ true))
  pub ordered : AllPairs (λ r s. beats r s ≡ true) matches

-- a look-up of all returns the list of matches and no other list, and its first route is the answer to a look-up
abbrev pub LookUpAllFindsMatches : Type 0
LookUpAllFindsMatches =
    (addr : Addr) (table : List Route) → IsTable table
    → ((matches : List Route) → (look_up_all addr table ≡ matches) ↔ AreAllMatches addr table matches)
    × (slice_get (look_up_all addr table) 0 ≡ look_up addr table)

-- the best route of each prefix: no two are to the same prefix, and a look-up among them has the same answer as in the
-- whole table
pub record BestRoutesSuffice : Type 0 where
  pub single : (table : List Route) → IsTable table → AllPairs (λ r s. same_prefix r.prefix s.prefix ≡ false) (best_routes table)
  pub answers : (addr : Addr) (table : List Route) → IsTable table → look_up addr (best_routes table) ≡ look_up addr table

-- a journal leaves a table: the empty one if it has no entries, and after one more entry the one that this entry's
-- command leaves
pub record TableByEntry : Type 0 where
  pub table : (limit : ℕ) (journal : List Entry) → IsTable (table_of_journal limit journal)
  pub empty : (limit : ℕ) → table_of_journal limit [] ≡ []
  pub step : (limit : ℕ) (journal : List Entry) (e : Entry)
      → table_of_journal limit (journal ++ e ∷ []) ≡ table_after limit (table_of_journal limit journal) e.feed e.cmd

-- the empty journal is lawful; a journal with one more entry is lawful if and only if it was lawful before, and the
-- entry is answered as by the sequential table
pub record LawfulByEntry : Type 0 where
  pub empty : (limit : ℕ) → IsLawfulJournal limit []
  pub step : (limit : ℕ) (journal : List Entry) (e : Entry)
      → IsLawfulJournal limit (journal ++ e ∷ []) ↔ (IsLawfulJournal limit journal × IsAnswered limit journal e)

-- the commands of a journal, each with its feed
abbrev pub asked : List Entry → List (ℕ × Cmd)
asked journal = map (λ e. (e.feed, e.cmd)) journal

-- the same commands have the same replies in every lawful journal
abbrev pub LawfulIsDetermined : Type 0
LawfulIsDetermined = (limit : ℕ) (j k : List Entry) → IsLawfulJournal limit j → IsLawfulJournal limit k → asked j ≡ asked k → j ≡ k

-- the routes of a feed
abbrev pub feed_routes : ℕ → List Route → List Route
feed_routes feed table = filter (λ r. r.feed == feed) table

-- the entries of a feed
abbrev pub feed_entries : ℕ → List Entry → List Entry
feed_entries feed journal = filter (λ e. e.feed == feed) journal

-- true if the command only concerns its feed's own routes
abbrev pub is_own : Cmd → Bool
is_own (Lookup addr) = false
is_own Dump = false
is_own cmd = true

-- each feed's routes are those that its own entries leave without the others, and its own commands are answered from
-- them
abbrev pub FeedsStandAlone : Type 0
FeedsStandAlone =
    (limit feed : ℕ) (journal : List Entry) (cmd : Cmd)
    → (feed_routes feed (table_of_journal limit journal) ≡ table_of_journal limit (feed_entries feed journal))
    × (is_own cmd ≡ true → reply_of limit (table_of_journal limit journal) feed cmd
    ≡ reply_of limit (table_of_journal limit (feed_entries feed journal)) feed cmd)
