-- The prefixes whose best routes a call changes, as C sees them.
use Rattle.std.specs.Prelude.{◌≡◌, ℕ, List, Option, Some, None, [], ◌∷◌, IsSome, option_to_list}
use Rattle.rt_rib.specs.declared.commands.Cmd.{Cmd}
use Rattle.rt_rib.specs.Book.{IsFeed}
use Rattle.rt_rib.specs.Sequential.{changed_prefix}
use Rattle.rt_rib.specs.declared.routes.Route.{Route}
use Rattle.rt_rib.specs.declared.changes.BestChange.{BestChange}
use Rattle.rt_rib.specs.Table.{purge}
use Rattle.rt_rib.specs.Changes.{AreBestChanges}
use Rattle.yarib_c.specs.declared.held.Held.{Held}
use Rattle.yarib_c.specs.declared.commands.YaribCommand.{YaribCommand}
use Rattle.yarib_c.specs.declared.commands.YaribReply.{YaribReply}
use Rattle.yarib_c.specs.declared.changed.YaribChange.{YaribChange}
use Rattle.yarib_c.specs.Calls.{CommandAnswered}
use Rattle.yarib_c.specs.Forms.{no_route, answer_as, IsCommand}
use Rattle.yarib_c.specs.Kinds.{routes_in, IsForwarding}
use Rattle.yarib_c.specs.Statuses.{IsOneOf, Check}
use Rattle.yarib_c.specs.declared.status.TheConstants.{DONE, BAD_NUMBER, BAD_COMMAND, NO_MEMORY, WRONG_KIND}
use Rattle.yarib_c.specs.Lists.{ShowsPart}

-- the prefix and its best routes before and after
abbrev pub change_as : BestChange → YaribChange
change_as c = record { before = answer_as c.before; after = answer_as c.after; base = c.prefix.base; len = c.prefix.len }

-- a change, or zeros if there is none
abbrev pub told_change : Option BestChange → YaribChange
told_change None = record { before = no_route; after = no_route; base = 0; len = 0 }
told_change (Some c) = change_as c

-- this is the only prefix whose best route differs between the tables; or all numbers are 0, and none differs
pub record ShowsChange (old new : List Route) (told : YaribChange) : Type 0 where
  pub change : Option BestChange
  pub are : AreBestChanges old new (option_to_list change)
  pub is : told ≡ told_change change

-- the command was answered, and this is what it changed
pub record CommandChanged (old new : Held) (c : YaribCommand) (r : YaribReply) (told : YaribChange) : Type 0 where
  pub answered : CommandAnswered old new c r
  pub shows : ShowsChange (routes_in old) (routes_in new) told

-- the status of a command whose change is asked for, by the first reason that applies
abbrev pub ChangeStatus : YaribCommand → Held → ℕ → Type 0
ChangeStatus c held = Check (¬ IsFeed c.feed) BAD_NUMBER (Check ((cmd : Cmd) → IsCommand c cmd → ¬ IsSome (changed_prefix cmd)) BAD_COMMAND
    (Check (IsForwarding held) WRONG_KIND (IsOneOf (DONE ∷ NO_MEMORY ∷ []))))

-- of the changes that a purge of the feed would make, those from index `skip` on are shown, and `total` is their number
pub record ShowsPurge (feed : ℕ) (routes : List Route) (skip : ℕ) (shown : List YaribChange) (total : ℕ) : Type 0 where
  pub changes : List BestChange
  pub are : AreBestChanges routes (purge feed routes) changes
  pub shows : ShowsPart change_as changes skip shown total
