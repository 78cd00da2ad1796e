-- What a handle can hold, as a table: its limit, its routes, and its journal if it keeps one.
use Rattle.std.specs.Prelude.{◌≡◌, ℕ, zero, suc, true, ◌+◌, ◌≤◌, ◌⊎◌, List, Option, Some, None, [], ◌∷◌, ◌++◌}
use Rattle.std.specs.Option.{option_map}
use Rattle.rt_rib.specs.declared.routes.Route.{Route}
use Rattle.rt_rib.specs.declared.commands.Cmd.{Cmd}
use Rattle.rt_rib.specs.declared.commands.Reply.{Reply}
use Rattle.rt_rib.specs.declared.commands.Reply.TheVariants.{Added, Exists, Full, Replaced, Withdrawn, Missing, Found, NoRoute, Dumped, Purged}
use Rattle.rt_rib.specs.declared.commands.Entry.{Entry}
use Rattle.rt_rib.specs.Sequential.{reply_of, table_after}
use Rattle.rt_rib.specs.Book.{table_of}
use Rattle.yarib_c.specs.declared.held.Held.{Held}
use Rattle.yarib_c.specs.declared.held.Held.TheVariants.{Plain, Journaled, Forwarding}

-- the maximum number of routes of a feed, which is 0 in a table that can't change
abbrev pub limit_of : Held → ℕ
limit_of (Plain plain) = plain.table.limit
limit_of (Journaled book) = book.limit
limit_of (Forwarding fib) = 0

-- the routes from which it answers
abbrev pub routes_in : Held → List Route
routes_in (Plain plain) = plain.table.routes
routes_in (Journaled book) = table_of book
routes_in (Forwarding fib) = fib.value

-- the journal, if it keeps one
abbrev pub journal_in : Held → Option (List Entry)
journal_in (Plain plain) = None
journal_in (Journaled book) = Some book.journal
journal_in (Forwarding fib) = None

-- the requested journal: none, or an empty one
abbrev pub journal_from : ℕ → Option (List Entry)
journal_from zero = None
journal_from (suc n) = Some []

-- a new table
pub record IsNew (limit kind : ℕ) (held : Held) : Type 0 where
  pub limited : limit_of held ≡ limit
  pub empty : routes_in held ≡ []
  pub journal : journal_in held ≡ journal_from kind

-- it is a forwarding table, which can't change
abbrev pub IsForwarding : Held → Type 0
IsForwarding (Plain plain) = ⊥
IsForwarding (Journaled book) = ⊥
IsForwarding (Forwarding fib) = Unit {0}

-- it is a table with a forwarding table that follows its commands
abbrev pub IsFollowed : Held → Type 0
IsFollowed (Plain plain) = plain.is_followed ≡ true
IsFollowed (Journaled book) = ⊥
IsFollowed (Forwarding fib) = ⊥

-- 1 says that a forwarding table follows its commands, and 0 that none does
abbrev pub SaysFollowed : Held → ℕ → Type 0
SaysFollowed held number = ((number ≡ 1) × IsFollowed held) ⊎ ((number ≡ 0) × ¬ IsFollowed held)

-- it is a forwarding table, or a table with one that follows its commands
abbrev pub HasFib : Held → Type 0
HasFib (Plain plain) = plain.is_followed ≡ true
HasFib (Journaled book) = ⊥
HasFib (Forwarding fib) = Unit {0}

-- it is a table that keeps no journal
abbrev pub IsPlain : Held → Type 0
IsPlain (Plain plain) = Unit {0}
IsPlain (Journaled book) = ⊥
IsPlain (Forwarding fib) = ⊥

-- the number of entries for which the journal has room
abbrev pub room_in : Held → ℕ
room_in (Plain plain) = 0
room_in (Journaled book) = book.room
room_in (Forwarding fib) = 0

-- limit, routes and journal are unchanged, no room in the journal is lost, and a forwarding table that follows goes on following
pub record IsSame (old new : Held) : Type 0 where
  pub limited : limit_of new ≡ limit_of old
  pub routes : routes_in new ≡ routes_in old
  pub journal : journal_in new ≡ journal_in old
  pub room : room_in old ≤ room_in new
  pub followed : IsFollowed old → IsFollowed new

-- the reply says that routes were inserted, changed or removed, or that a feed was purged
abbrev pub SaysChange : Reply → Type 0
SaysChange Added = Unit {0}
SaysChange Replaced = Unit {0}
SaysChange Withdrawn = Unit {0}
SaysChange (Purged n) = Unit {0}
SaysChange Exists = ⊥
SaysChange Full = ⊥
SaysChange Missing = ⊥
SaysChange (Found r) = ⊥
SaysChange NoRoute = ⊥
SaysChange (Dumped n) = ⊥

-- if it keeps a journal, the journal has room for this many entries
abbrev pub HasRoom : ℕ → Held → Held → Type 0
HasRoom entries old (Plain plain) = Unit {0}
HasRoom entries old (Journaled book) = entries ≤ book.room
HasRoom entries old (Forwarding fib) = Unit {0}

-- the command was answered as by the sequential table, the routes are those that the sequential table has afterwards,
-- and a journal has gained this entry at its end, which uses room for at most one. A forwarding table that follows goes on
-- following, unless the command is a change
pub record Applied (old new : Held) (feed : ℕ) (cmd : Cmd) (reply : Reply) : Type 0 where
  pub replied : reply ≡ reply_of (limit_of old) (routes_in old) feed cmd
  pub limited : limit_of new ≡ limit_of old
  pub routes : routes_in new ≡ table_after (limit_of old) (routes_in old) feed cmd
  pub journal : journal_in new ≡ option_map (λ entries. entries ++ record { feed = feed; cmd = cmd; reply = reply } ∷ []) (journal_in old)
  pub room : room_in old ≤ room_in new + 1
  pub followed : IsFollowed old → SaysChange reply ⊎ IsFollowed new

-- the command needs memory: it inserts a route, or its entry has no room in the journal
abbrev pub WantsMemory : Held → ℕ → Cmd → Type 0
WantsMemory (Plain plain) feed cmd = reply_of plain.table.limit plain.table.routes feed cmd ≡ Added
WantsMemory (Journaled book) feed cmd = (book.room ≡ 0) ⊎ (reply_of book.limit (table_of book) feed cmd ≡ Added)
WantsMemory (Forwarding fib) feed cmd = ⊥

-- the command failed because memory ran out, and nothing has changed
pub record NotApplied (old new : Held) (feed : ℕ) (cmd : Cmd) : Type 0 where
  pub same : IsSame old new
  pub wanted : WantsMemory old feed cmd
