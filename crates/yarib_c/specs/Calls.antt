-- The effect of a call on what a handle holds, and the reasons why a call did nothing.
use Rattle.std.specs.Prelude.{◌≡◌, ℕ, ◌≤◌, ◌⊎◌, List, Option, Some, None, [], ◌∷◌, length, map, take, MatchOption}
use Rattle.rt_cidr.specs.declared.address.Addr.{Addr}
use Rattle.rt_rib.specs.declared.routes.Route.{Route}
use Rattle.rt_rib.specs.declared.commands.Cmd.{Cmd}
use Rattle.rt_rib.specs.declared.commands.Reply.{Reply}
use Rattle.rt_rib.specs.LookUp.{look_up}
use Rattle.rt_rib.specs.Book.{IsFeed}
use Rattle.yarib_c.specs.declared.held.Held.{Held}
use Rattle.yarib_c.specs.declared.handle.Yarib.{Yarib}
use Rattle.yarib_c.specs.declared.routes.YaribRoute.{YaribRoute}
use Rattle.yarib_c.specs.declared.commands.YaribCommand.{YaribCommand}
use Rattle.yarib_c.specs.declared.commands.YaribReply.{YaribReply}
use Rattle.yarib_c.specs.declared.status.TheConstants.{DONE, NOTHING, BAD_NUMBER, BAD_COMMAND, NO_MEMORY, WRONG_KIND}
use Rattle.yarib_c.specs.Statuses.{IsOneOf, Check}
use Rattle.yarib_c.specs.Handle.{held_at}
use Rattle.yarib_c.specs.Kinds.{routes_in, IsForwarding, IsSame, Applied, NotApplied}
use Rattle.yarib_c.specs.Forms.{IsCommand, reply_as, answer_as, router_as, unanswered}

-- what the handle holds, or nothing
abbrev pub held_in : Yarib → Option Held
held_in y = held_at y.at y.held

-- some contents are held, and they have this property
abbrev pub SomeHeld : Option Held → (Held → Type 0) → Type 0
SomeHeld None Is = ⊥
SomeHeld (Some held) Is = Is held

-- the handle holds something, which has this property
abbrev pub HandleHolds : Yarib → (Held → Type 0) → Type 0
HandleHolds y Is = SomeHeld (held_in y) Is

-- if the handle holds nothing, the status is `NOTHING`; else it is as the rest says of what it holds
abbrev pub WithHeld : Yarib → (Held → ℕ → Type 0) → ℕ → Type 0
WithHeld y Rest status = MatchOption (held_in y) (status ≡ NOTHING) (λ held. Rest held status)

-- the status of a command, by the first reason that applies
abbrev pub CommandStatus : YaribCommand → Held → ℕ → Type 0
CommandStatus c held = Check (¬ IsFeed c.feed) BAD_NUMBER (Check ((cmd : Cmd) → ¬ IsCommand c cmd) BAD_COMMAND
    (Check (IsForwarding held) WRONG_KIND (IsOneOf (DONE ∷ NO_MEMORY ∷ []))))

-- a transition from held contents to held contents, which are in this relation
pub record HeldTransition (old new : Option Held) (Is : Held → Held → Type 0) : Type 0 where
  pub before : Held
  pub after : Held
  pub old_is : old ≡ Some before
  pub new_is : new ≡ Some after
  pub is : Is before after

-- a transition of the handle: from what it held to what it holds, which are in this relation
abbrev pub Transition : Yarib → Yarib → (Held → Held → Type 0) → Type 0
Transition old new Is = HeldTransition (held_in old) (held_in new) Is

-- the same is held, with its limit, routes and journal; or nothing was held, and nothing is
abbrev pub SameHeld : Option Held → Option Held → Type 0
SameHeld None new = new ≡ None
SameHeld (Some old) new = SomeHeld new (λ held. IsSame old held)

-- the handle still holds what it held, with its limit, routes and journal
abbrev pub IsKept : Yarib → Yarib → Type 0
IsKept old new = SameHeld (held_in old) (held_in new)

-- it is a forwarding table, and answers from these routes
pub record IsFibWithRoutes (routes : List Route) (held : Held) : Type 0 where
  pub kind : IsForwarding held
  pub answers : routes_in held ≡ routes

-- the command was answered: its numbers denote a command of a feed, which was applied and has this reply
pub record CommandAnswered (old new : Held) (c : YaribCommand) (r : YaribReply) : Type 0 where
  pub cmd : Cmd
  pub reply : Reply
  pub is_command : IsCommand c cmd
  pub is_feed : IsFeed c.feed
  pub applied : Applied old new c.feed cmd reply
  pub answered : r ≡ reply_as reply

-- the command was refused: its numbers denote a command of a feed, which failed because memory ran out
pub record CommandRefused (old new : Held) (c : YaribCommand) : Type 0 where
  pub cmd : Cmd
  pub is_command : IsCommand c cmd
  pub is_feed : IsFeed c.feed
  pub refused : NotApplied old new c.feed cmd

-- the reason why a command has no answer, by its status: the feed number is invalid, the numbers don't denote a
-- command, memory ran out, or the table can't change
abbrev pub IsReason : ℕ → Held → Held → YaribCommand → Type 0
IsReason status old new c =
    ((status ≡ BAD_NUMBER) × ¬ IsFeed c.feed) ⊎ (((status ≡ BAD_COMMAND) × ((cmd : Cmd) → ¬ IsCommand c cmd))
    ⊎ (((status ≡ NO_MEMORY) × CommandRefused old new c) ⊎ ((status ≡ WRONG_KIND) × IsForwarding old)))

-- a command has no answer, for the reason that the status gives, the first that applies, and nothing has changed
pub record IsUnanswered (old new : Held) (c : YaribCommand) (r : YaribReply) : Type 0 where
  pub status : ℕ
  pub reason : IsReason status old new c
  pub first : CommandStatus c old status
  pub same : IsSame old new
  pub told : r ≡ unanswered status

-- the outcome of a command: its reply, or the reason why it has none
abbrev pub HasOutcome : Held → Held → YaribCommand → YaribReply → Type 0
HasOutcome old new c r = CommandAnswered old new c r ⊎ IsUnanswered old new c r

-- the outcome of each command, one after another
abbrev pub HaveOutcomes : Held → Held → List YaribCommand → List YaribReply → Type 0
HaveOutcomes old new [] [] = new ≡ old
HaveOutcomes old new (c ∷ cs) (r ∷ rs) = (next : Held) × HasOutcome old next c r × HaveOutcomes next new cs rs
HaveOutcomes old new [] (r ∷ rs) = ⊥
HaveOutcomes old new (c ∷ cs) [] = ⊥

-- the address with this number
abbrev pub addr : ℕ → Addr
addr a = record { 0 = a }

-- the answers to look-ups of all addresses
abbrev pub answers_in : List Route → List ℕ → List YaribRoute
answers_in routes addresses = map (λ a. answer_as (look_up (addr a) routes)) addresses

-- the routers to which the answers of all addresses lead, with the numbers for no route and for discarding
abbrev pub routers_in : ℕ → ℕ → List Route → List ℕ → List ℕ
routers_in none discard routes addresses = map (λ a. router_as none discard (look_up (addr a) routes)) addresses

-- these bytes are at the front of the text, and `used` is their number
pub record PutsText (bytes text : List ℕ) (used : ℕ) : Type 0 where
  pub within : used ≤ length text
  pub put : take used text ≡ bytes
