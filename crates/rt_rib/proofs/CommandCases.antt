-- The sequential table's reply and new state for each command, case by case.
use Rattle.std.proofs.Common.{◌≡◌, ℕ, ◌<◌, ◌≤◌, true, false, List, Some, None, refl, ap, length}
use Rattle.std.proofs.lemmas.Bool.{le-leb, lt-leb}
use Rattle.rt_cidr.specs.declared.address.Addr.{Addr}
use Rattle.rt_cidr.specs.declared.prefixes.Prefix.{Prefix}
use Rattle.rt_rib.specs.declared.routes.Route.{Route}
use Rattle.rt_rib.specs.declared.commands.Cmd.{Cmd}
use Rattle.rt_rib.specs.declared.commands.Cmd.TheVariants.{Add, Replace, Withdraw, Lookup, Dump, Purge}
use Rattle.rt_rib.specs.declared.commands.Reply.TheVariants.{Added, Exists, Full, Replaced, Withdrawn, Missing, Found, NoRoute, Dumped, Purged}
use Rattle.rt_rib.specs.Table.{has, count_of, put_in, take_out, purge}
use Rattle.rt_rib.specs.LookUp.{look_up}
use Rattle.rt_rib.specs.Sequential.{reply_of, table_after, add_of, replace_of}
use Rattle.rt_rib.specs.Book.{TableState, Serves}

-- a limit and routes
abbrev pub state : ℕ → List Route → TableState
state limit t = record { limit = limit; routes = t }

module _ (limit : ℕ) (t : List Route) (r : Route) where
  -- an add to a feed that has the route
  pub exists : has r.feed r.prefix t ≡ true → Serves (state limit t) (state limit t) r.feed (add_of r) Exists
  unfolding reply_of table_after
  exists there = record { replied = rw there; changed = rw there }

  -- an add to a feed that has reached its limit
  pub full : has r.feed r.prefix t ≡ false → limit ≤ count_of r.feed t → Serves (state limit t) (state limit t) r.feed (add_of r) Full
  unfolding reply_of table_after
  full fresh many = let at = le-leb limit (count_of r.feed t) many in record { replied = rw (fresh, at); changed = rw (fresh, at) }

  -- any other add
  pub added : has r.feed r.prefix t ≡ false → count_of r.feed t < limit → (u : List Route) → u ≡ put_in r t
      → Serves (state limit t) (state limit u) r.feed (add_of r) Added
  unfolding reply_of table_after
  added fresh room u is = let at = lt-leb limit (count_of r.feed t) room in record { replied = rw (fresh, at); changed = rw (is, fresh, at) }

  -- a replacement without a route
  pub unreplaced : has r.feed r.prefix t ≡ false → Serves (state limit t) (state limit t) r.feed (replace_of r) Missing
  unfolding reply_of table_after
  unreplaced fresh = record { replied = rw fresh; changed = rw fresh }

  -- a replacement of a route
  pub replaced : has r.feed r.prefix t ≡ true → (u : List Route) → u ≡ put_in r (take_out r.feed r.prefix t)
      → Serves (state limit t) (state limit u) r.feed (replace_of r) Replaced
  unfolding reply_of table_after
  replaced there u is = record { replied = rw there; changed = rw (is, there) }

module _ (limit : ℕ) (t : List Route) (feed : ℕ) where
  -- a withdrawal without a route
  pub unwithdrawn : (p : Prefix) → has feed p t ≡ false → Serves (state limit t) (state limit t) feed (Withdraw p) Missing
  unfolding reply_of table_after
  unwithdrawn p fresh = record { replied = rw fresh; changed = rw fresh }

  -- a withdrawal of a route
  pub withdrawn : (p : Prefix) → has feed p t ≡ true → (u : List Route) → u ≡ take_out feed p t
      → Serves (state limit t) (state limit u) feed (Withdraw p) Withdrawn
  unfolding reply_of table_after
  withdrawn p there u is = record { replied = rw there; changed = rw (is, there) }

  -- a purge
  pub purged : (gone : ℕ) → gone ≡ count_of feed t → (u : List Route) → u ≡ purge feed t → Serves (state limit t) (state limit u) feed Purge (Purged gone)
  unfolding reply_of table_after
  purged gone are u is = record { replied = ap Purged are; changed = rw is refl }

  -- a look-up of an address that no prefix covers
  pub unfound : (addr : Addr) → None ≡ look_up addr t → Serves (state limit t) (state limit t) feed (Lookup addr) NoRoute
  unfolding reply_of table_after
  unfound addr is = record { replied = rw (← is); changed = refl }

  -- a look-up of any other address
  pub found : (addr : Addr) (r : Route) → Some r ≡ look_up addr t → Serves (state limit t) (state limit t) feed (Lookup addr) (Found r)
  unfolding reply_of table_after
  found addr r is = record { replied = rw (← is); changed = refl }

  -- a dump
  pub dumped : Serves (state limit t) (state limit t) feed Dump (Dumped (length t))
  unfolding reply_of table_after
  dumped = record { replied = refl; changed = refl }

-- what holds of each kind of command holds of every command; a route that is put is of the command's feed
pub each_command : (P : ℕ → Cmd → Type 0) → ((r : Route) → P r.feed (add_of r)) → ((r : Route) → P r.feed (replace_of r))
    → ((feed : ℕ) (prefix : Prefix) → P feed (Withdraw prefix)) → ((feed : ℕ) (addr : Addr) → P feed (Lookup addr)) → ((feed : ℕ) → P feed Dump)
    → ((feed : ℕ) → P feed Purge) → (feed : ℕ) (cmd : Cmd) → P feed cmd
each_command P adds replaces withdraws asks counts purges feed (Add p pref hop) = adds (record { prefix = p; feed = feed; pref = pref; hop = hop })
each_command P adds replaces withdraws asks counts purges feed (Replace p pref hop) =
    replaces (record { prefix = p; feed = feed; pref = pref; hop = hop })
each_command P adds replaces withdraws asks counts purges feed (Withdraw p) = withdraws feed p
each_command P adds replaces withdraws asks counts purges feed (Lookup addr) = asks feed addr
each_command P adds replaces withdraws asks counts purges feed Dump = counts feed
each_command P adds replaces withdraws asks counts purges feed Purge = purges feed
