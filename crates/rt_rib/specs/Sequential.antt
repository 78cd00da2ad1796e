-- The sequential table: the reply to a command of a feed, and the set of routes after it. And the journal: every
-- answered command, with its reply, in the order in which they were answered.
use Rattle.std.specs.Prelude.{ℕ, nat_le, if◌then◌else◌, List, length, ◌≡◌, [], ◌∷◌, ◌++◌, fold, Option, None, Some}
use Rattle.std.specs.Option.{option_map_or}
use Rattle.rt_cidr.specs.declared.prefixes.Prefix.{Prefix}
use Rattle.rt_rib.specs.declared.routes.Route.{Route}
use Rattle.rt_rib.specs.declared.commands.Cmd.{Cmd}
use Rattle.rt_rib.specs.declared.commands.Cmd.TheVariants.{Add, Replace, Withdraw, Lookup, Dump, Purge}
use Rattle.rt_rib.specs.declared.commands.Reply.{Reply}
use Rattle.rt_rib.specs.declared.commands.Reply.TheVariants.{Added, Exists, Full, Replaced, Withdrawn, Missing, Found, NoRoute, Dumped, Purged}
use Rattle.rt_rib.specs.Table.{has, count_of, put_in, take_out, purge}
use Rattle.rt_rib.specs.LookUp.{look_up}
use Rattle.rt_rib.specs.declared.commands.Entry.{Entry}

-- the reply to the command, if a feed may have at most `limit` routes
unfoldable pub reply_of : ℕ → List Route → ℕ → Cmd → Reply
reply_of limit table feed (Add prefix pref hop) =
    if has feed prefix table then Exists else if nat_le limit (count_of feed table) then Full else Added
reply_of limit table feed (Replace prefix pref hop) = if has feed prefix table then Replaced else Missing
reply_of limit table feed (Withdraw prefix) = if has feed prefix table then Withdrawn else Missing
reply_of limit table feed (Lookup addr) = option_map_or Found (look_up addr table) NoRoute
reply_of limit table feed Dump = Dumped (length table)
reply_of limit table feed Purge = Purged (count_of feed table)

-- the set after the command
unfoldable pub table_after : ℕ → List Route → ℕ → Cmd → List Route
table_after limit table feed (Add prefix pref hop) =
    if has feed prefix table then table else if nat_le limit (count_of feed table) then table
    else put_in (record { prefix = prefix; feed = feed; pref = pref; hop = hop }) table
table_after limit table feed (Replace prefix pref hop) =
    if has feed prefix table then put_in (record { prefix = prefix; feed = feed; pref = pref; hop = hop }) (take_out feed prefix table)
    else table
table_after limit table feed (Withdraw prefix) = if has feed prefix table then take_out feed prefix table else table
table_after limit table feed (Lookup addr) = table
table_after limit table feed Dump = table
table_after limit table feed Purge = purge feed table

-- the command that inserts the route
abbrev pub add_of : Route → Cmd
add_of r = Add r.prefix r.pref r.hop

-- the command that puts the route in the place of another one
abbrev pub replace_of : Route → Cmd
replace_of r = Replace r.prefix r.pref r.hop

-- the prefix of the route that the command adds, replaces or withdraws
abbrev pub changed_prefix : Cmd → Option Prefix
changed_prefix (Add prefix pref hop) = Some prefix
changed_prefix (Replace prefix pref hop) = Some prefix
changed_prefix (Withdraw prefix) = Some prefix
changed_prefix cmd = None

-- the lowest address that the command concerns; `dump` and `purge` concern all addresses
abbrev pub lowest_address : Cmd → ℕ
lowest_address (Add prefix pref hop) = prefix.base
lowest_address (Replace prefix pref hop) = prefix.base
lowest_address (Withdraw prefix) = prefix.base
lowest_address (Lookup addr) = addr.0
lowest_address Dump = 0
lowest_address Purge = 0

-- the set after the journal's commands, starting from the empty set
unfoldable pub table_of_journal : ℕ → List Entry → List Route
table_of_journal limit journal = fold (λ table e. table_after limit table e.feed e.cmd) [] journal

-- the entry's reply is the sequential table's in the set that the earlier entries leave
abbrev pub IsAnswered : ℕ → List Entry → Entry → Type 0
IsAnswered limit earlier e = e.reply ≡ reply_of limit (table_of_journal limit earlier) e.feed e.cmd

-- each entry is answered in this way after the entries before it
pub record IsLawfulJournal (limit : ℕ) (journal : List Entry) : Type 0 where
  pub answered : (earlier : List Entry) (e : Entry) (later : List Entry) → journal ≡ earlier ++ e ∷ later → IsAnswered limit earlier e
