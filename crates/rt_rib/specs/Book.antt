-- A table and a book, as contracts see them.
use Rattle.std.specs.Prelude.{◌≡◌, ℕ, ◌+◌, ◌≤◌, ◌⊎◌, List, [], ◌∷◌, ◌++◌}
use Rattle.rt_trie.specs.TrieContents as rt_trie
use Rattle.rt_trie.specs.Lawful.{IsLawful}
use Rattle.rt_rib.specs.declared.routes.Route.{Route}
use Rattle.rt_rib.specs.declared.offers.Offer.{Offer}
use Rattle.rt_rib.specs.declared.commands.Cmd.{Cmd}
use Rattle.rt_rib.specs.declared.commands.Reply.{Reply}
use Rattle.rt_rib.specs.declared.commands.Reply.TheVariants.{Added}
use Rattle.rt_rib.specs.declared.commands.Entry.{Entry}
use Rattle.rt_rib.specs.declared.limits.TheConstants.{MAX_FEEDS, MAX_ROUTES_PER_FEED}
use Rattle.rt_rib.specs.Sequential.{reply_of, table_after, table_of_journal}
use Rattle.rt_rib.specs.Table.{IsTable}
use Rattle.rt_rib.specs.Maps.{routes_of, IsMap}

-- the limit on a feed's routes is valid
abbrev pub IsLimit : ℕ → Type 0
IsLimit limit = (1 ≤ limit) × (limit ≤ MAX_ROUTES_PER_FEED)

-- the feed number is valid
abbrev pub IsFeed : ℕ → Type 0
IsFeed feed = (1 ≤ feed) × (feed ≤ MAX_FEEDS)

-- a trie of offers: each prefix with its offers, and the nodes
abbrev pub OfferTrie : Type 0
OfferTrie = rt_trie.TrieContents (List Offer)

-- what a command reads and may change: the maximum number of routes of a feed, and the routes
pub record TableState : Type 0 where
  pub limit : ℕ
  pub routes : List Route

-- a table as contracts see it: its state, and the trie that holds the routes
pub record TableContents : Type 0 where
  pub limit : ℕ
  pub routes : List Route
  pub trie : OfferTrie

-- the part of a table that a command reads and may change
abbrev pub table_state : TableContents → TableState
table_state t = record { limit = t.limit; routes = t.routes }

-- the reply and the new routes are those of the sequential table
pub record Serves (old new : TableState) (feed : ℕ) (cmd : Cmd) (reply : Reply) : Type 0 where
  pub replied : reply ≡ reply_of old.limit old.routes feed cmd
  pub changed : new ≡ record old { routes = table_after old.limit old.routes feed cmd }

-- a book as contracts see it: the maximum number of routes of a feed, every answered command, the trie of the routes,
-- and the number of entries that the journal still has room for
pub record BookContents : Type 0 where
  pub limit : ℕ
  pub journal : List Entry
  pub trie : OfferTrie
  pub room : ℕ

-- the routes of the book: those that its journal leaves
abbrev pub table_of : BookContents → List Route
table_of book = table_of_journal book.limit book.journal

-- the trie is lawful, each of its prefixes has offers, the best first, and its routes, read prefix by prefix and offer
-- by offer, are exactly these, none of them twice
pub record HoldsRoutes (trie : OfferTrie) (routes : List Route) : Type 0 where
  pub lawful : IsLawful trie
  pub map : IsMap trie.pairs
  pub exactly : routes_of trie.pairs ≡ routes
  pub once : IsTable routes

-- the trie of the book holds the routes that the journal leaves
abbrev pub HoldsTable : BookContents → Type 0
HoldsTable book = HoldsRoutes book.trie (table_of book)

-- the reply is the sequential table's, and the journal has gained this entry at its end, which uses room for at most
-- one
pub record Applies (old new : BookContents) (feed : ℕ) (cmd : Cmd) (reply : Reply) : Type 0 where
  pub replied : reply ≡ reply_of old.limit (table_of old) feed cmd
  pub limited : new.limit ≡ old.limit
  pub journaled : new.journal ≡ old.journal ++ record { feed = feed; cmd = cmd; reply = reply } ∷ []
  pub roomy : old.room ≤ new.room + 1

-- memory ran out: limit, journal and trie are unchanged, no room is lost, and either there is still no room or the
-- command is one that inserts a route
pub record Refuses (old new : BookContents) (feed : ℕ) (cmd : Cmd) : Type 0 where
  pub limited : new.limit ≡ old.limit
  pub journaled : new.journal ≡ old.journal
  pub kept : new.trie ≡ old.trie
  pub roomy : old.room ≤ new.room
  pub wanted : (new.room ≡ 0) ⊎ (reply_of old.limit (table_of old) feed cmd ≡ Added)

-- the journal has room for this many entries, and at least as many as before; limit, journal and trie are unchanged
pub record Reserves (old new : BookContents) (entries : ℕ) : Type 0 where
  pub limited : new.limit ≡ old.limit
  pub journaled : new.journal ≡ old.journal
  pub kept : new.trie ≡ old.trie
  pub roomy : old.room ≤ new.room
  pub reserved : entries ≤ new.room
