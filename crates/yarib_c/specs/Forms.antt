-- Routes, commands, replies and entries as the numbers that are passed to and from C.
use Rattle.std.specs.Prelude.{◌≡◌, ℕ, Option, Some, None}
use Rattle.rt_cidr.specs.declared.prefixes.Prefix.{Prefix}
use Rattle.rt_rib.specs.declared.routes.Hop.{Hop}
use Rattle.rt_rib.specs.declared.routes.Hop.TheVariants.{Via, Discard}
use Rattle.rt_rib.specs.declared.routes.Route.{Route}
use Rattle.rt_rib.specs.declared.commands.Cmd.{Cmd}
use Rattle.rt_rib.specs.declared.commands.Cmd.TheVariants.{Add, Replace, Withdraw, Lookup, Dump, Purge}
use Rattle.rt_rib.specs.declared.commands.Reply.{Reply}
use Rattle.rt_rib.specs.declared.commands.Reply.TheVariants.{Added, Exists, Full, Replaced, Withdrawn, Missing, Found, NoRoute, Dumped, Purged}
use Rattle.rt_rib.specs.declared.commands.Entry.{Entry}
use Rattle.yarib_c.specs.declared.routes.YaribRoute.{YaribRoute}
use Rattle.yarib_c.specs.declared.commands.YaribCommand.{YaribCommand}
use Rattle.yarib_c.specs.declared.commands.YaribReply.{YaribReply}
use Rattle.yarib_c.specs.declared.commands.YaribEntry.{YaribEntry}

-- the kind of a next hop
abbrev pub hop_number : Hop → ℕ
hop_number (Via a) = 1
hop_number Discard = 2

-- the router's address, or 0 if there is none
abbrev pub via_number : Hop → ℕ
via_number (Via a) = a.0
via_number Discard = 0

-- the answer that there is no route
abbrev pub no_route : YaribRoute
no_route = record { base = 0; pref = 0; via = 0; feed = 0; len = 0; hop = 0 }

-- a route
abbrev pub route_as : Route → YaribRoute
route_as r = record { base = r.prefix.base; pref = r.pref; via = via_number r.hop; feed = r.feed; len = r.prefix.len; hop = hop_number r.hop }

-- only a next hop
abbrev pub hop_as : Hop → YaribRoute
hop_as hop = record { base = 0; pref = 0; via = via_number hop; feed = 0; len = 0; hop = hop_number hop }

-- the answer to a look-up
abbrev pub answer_as : Option Route → YaribRoute
answer_as None = no_route
answer_as (Some r) = route_as r

-- the router of a next hop, or the number for discarding
abbrev pub router_of : ℕ → Hop → ℕ
router_of discard (Via a) = a.0
router_of discard Discard = discard

-- the router to which an answer leads, or the number for no route or for discarding
abbrev pub router_as : ℕ → ℕ → Option Route → ℕ
router_as none discard None = none
router_as none discard (Some r) = router_of discard r.hop

-- the command has this next hop: its numbers denote it
abbrev pub IsHop : YaribCommand → Hop → Type 0
IsHop c (Via a) = (c.hop ≡ 1) × (a.0 ≡ c.via)
IsHop c Discard = c.hop ≡ 2

-- the command has this prefix: its numbers denote it
abbrev pub HasPrefix : YaribCommand → Prefix → Type 0
HasPrefix c p = (p.base ≡ c.base) × (p.len ≡ c.len)

-- the numbers denote the command
abbrev pub IsCommand : YaribCommand → Cmd → Type 0
IsCommand c (Add prefix pref hop) = (c.operation ≡ 1) × HasPrefix c prefix × (pref ≡ c.pref) × IsHop c hop
IsCommand c (Replace prefix pref hop) = (c.operation ≡ 2) × HasPrefix c prefix × (pref ≡ c.pref) × IsHop c hop
IsCommand c (Withdraw prefix) = (c.operation ≡ 3) × HasPrefix c prefix
IsCommand c (Lookup addr) = (c.operation ≡ 4) × (addr.0 ≡ c.base)
IsCommand c Dump = c.operation ≡ 5
IsCommand c Purge = c.operation ≡ 6

-- a command with a route, by its operation
abbrev pub put_of : ℕ → ℕ → Prefix → ℕ → Hop → YaribCommand
put_of operation feed p pref hop =
    record { operation = operation; feed = feed; base = p.base; pref = pref; via = via_number hop; len = p.len; hop = hop_number hop }

-- the numbers of a feed's command
abbrev pub command_of : ℕ → Cmd → YaribCommand
command_of feed (Add prefix pref hop) = put_of 1 feed prefix pref hop
command_of feed (Replace prefix pref hop) = put_of 2 feed prefix pref hop
command_of feed (Withdraw prefix) = record { operation = 3; feed = feed; base = prefix.base; pref = 0; via = 0; len = prefix.len; hop = 0 }
command_of feed (Lookup addr) = record { operation = 4; feed = feed; base = addr.0; pref = 0; via = 0; len = 0; hop = 0 }
command_of feed Dump = record { operation = 5; feed = feed; base = 0; pref = 0; via = 0; len = 0; hop = 0 }
command_of feed Purge = record { operation = 6; feed = feed; base = 0; pref = 0; via = 0; len = 0; hop = 0 }

-- a reply
abbrev pub reply_as : Reply → YaribReply
reply_as Added = record { code = 1; count = 0; route = no_route }
reply_as Exists = record { code = 2; count = 0; route = no_route }
reply_as Full = record { code = 3; count = 0; route = no_route }
reply_as Replaced = record { code = 4; count = 0; route = no_route }
reply_as Withdrawn = record { code = 5; count = 0; route = no_route }
reply_as Missing = record { code = 6; count = 0; route = no_route }
reply_as (Found r) = record { code = 7; count = 0; route = route_as r }
reply_as NoRoute = record { code = 8; count = 0; route = no_route }
reply_as (Dumped n) = record { code = 9; count = n; route = no_route }
reply_as (Purged n) = record { code = 10; count = n; route = no_route }

-- the reply to a command that has none, with the reason
abbrev pub unanswered : ℕ → YaribReply
unanswered status = record { code = 0; count = status; route = no_route }

-- an entry of the journal
abbrev pub entry_as : Entry → YaribEntry
entry_as e = record { command = command_of e.feed e.cmd; reply = reply_as e.reply }
