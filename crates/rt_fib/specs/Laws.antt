-- What a command leaves of a table.
use Rattle.std.specs.Prelude.{◌≡◌, ◌↔◌, ℕ, false, List, Option, None, Some}
use Rattle.std.specs.List.{Contains}
use Rattle.rt_cidr.specs.declared.prefixes.Prefix.{Prefix}
use Rattle.rt_cidr.specs.Prefix.{same_prefix}
use Rattle.rt_rib.specs.declared.routes.Route.{Route}
use Rattle.rt_rib.specs.declared.commands.Cmd.{Cmd}
use Rattle.rt_rib.specs.declared.commands.Cmd.TheVariants.{Purge}
use Rattle.rt_rib.specs.declared.commands.Reply.{Reply}
use Rattle.rt_rib.specs.Sequential.{changed_prefix}
use Rattle.rt_rib.specs.Book.{TableState, Serves}

-- both tables contain the same of the routes to other prefixes
abbrev pub PreservesOtherRoutes : Prefix → List Route → List Route → Type 0
PreservesOtherRoutes prefix old new = (r : Route) → same_prefix r.prefix prefix ≡ false → Contains old r ↔ Contains new r

-- what a command preserves that changes only routes to this prefix, or none
abbrev pub Preserves : Option Prefix → List Route → List Route → Type 0
Preserves None old new = old ≡ new
Preserves (Some prefix) old new = PreservesOtherRoutes prefix old new

-- a command that puts a route in, replaces one or takes one out keeps the routes to other prefixes, one that only asks keeps all, and
-- of a purge nothing is said
abbrev pub KeepsOtherRoutes : Cmd → List Route → List Route → Type 0
KeepsOtherRoutes Purge old new = Unit {0}
KeepsOtherRoutes cmd old new = Preserves (changed_prefix cmd) old new

-- so it is with each command that a table answers
abbrev pub CommandsKeepOtherRoutes : Type 0
CommandsKeepOtherRoutes =
    (old new : TableState) (feed : ℕ) (cmd : Cmd) (reply : Reply) → Serves old new feed cmd reply → KeepsOtherRoutes cmd old.routes new.routes
