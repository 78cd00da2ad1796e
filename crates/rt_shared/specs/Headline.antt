-- The main theorem's terms for the core's worlds, where places answer commands.
use Rattle.std.specs.Prelude.{◌≡◌, ℕ, ◌≤◌, List, ◌∷◌, ◌++◌, map, false, Contains}
use Rattle.ya_core.specs.Worlds.{Marked, World, Event, IsReached, IsInside}
use Rattle.rt_cidr.specs.declared.address.Addr.{Addr}
use Rattle.rt_cidr.specs.Prefix.{covers}
use Rattle.rt_rib.specs.declared.routes.Route.{Route}
use Rattle.rt_rib.specs.declared.commands.Cmd.{Cmd}
use Rattle.rt_rib.specs.declared.commands.Cmd.TheVariants.{Lookup}
use Rattle.rt_rib.specs.declared.commands.Reply.{Reply}
use Rattle.rt_rib.specs.declared.commands.Reply.TheVariants.{Found, NoRoute}
use Rattle.rt_rib.specs.declared.commands.Entry.{Entry}
use Rattle.rt_rib.specs.Sequential.{table_of_journal, IsAnswered}
use Rattle.rt_rib.specs.Laws.{feed_entries, IsBestMatch}
use Rattle.rt_shared.specs.SharedTable.{feed_of}

-- a command with its reply
abbrev pub Act : Type 0
Act = Cmd × Reply

-- a place's act as an entry of the journal
abbrev pub entry_of : ℕ → Act → Entry
entry_of place act = record { feed = feed_of place; cmd = act.0; reply = act.1 }

-- the content of a world as a journal
abbrev pub journal_of : List (Marked Act) → List Entry
journal_of content = map (λ x. entry_of x.0 x.1) content

-- the reply is the sequential table's after these acts
abbrev pub IsSequential : ℕ → List (Marked Act) → Marked Act → Type 0
IsSequential limit earlier x = IsAnswered limit (journal_of earlier) (entry_of x.0 x.1)

-- in a tree of at least one level some list of events leads to the world, and each command was answered so after the
-- copy to which it was appended
abbrev pub IsRunTo : (limit levels : ℕ) → World Act → Type 0
IsRunTo limit levels world = (1 ≤ levels) × (events : List (Event Act)) × IsReached levels (IsSequential limit) events world

-- no two places are inside
abbrev pub NoTwoInside : World Act → Type 0
NoTwoInside world = (p q : ℕ) → IsInside world.state p → IsInside world.state q → p ≡ q

-- each feed's entries in the journal are those that it made, in order
abbrev pub HasAllMade : World Act → Type 0
HasAllMade world = (place : ℕ) → feed_entries (feed_of place) (journal_of world.content) ≡ map (entry_of place) (world.made place)

-- each look-up that found a route found the best feed's route of the longest matching prefix, in the table that the
-- entries before it left; if a look-up found none, no route of that table covers the address
pub record FindsBest (limit : ℕ) (journal : List Entry) : Type 0 where
  pub found : (feed : ℕ) (addr : Addr) (r : Route) (earlier later : List Entry)
      → journal ≡ earlier ++ record { feed = feed; cmd = Lookup addr; reply = Found r } ∷ later
      → IsBestMatch addr (table_of_journal limit earlier) r
  pub none : (feed : ℕ) (addr : Addr) (earlier later : List Entry)
      → journal ≡ earlier ++ record { feed = feed; cmd = Lookup addr; reply = NoRoute } ∷ later
      → (s : Route) → Contains (table_of_journal limit earlier) s → covers s.prefix addr ≡ false
