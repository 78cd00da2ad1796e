-- A shared table and a pass in the view of contracts, and the changes of the lent value.
use Rattle.std.specs.Prelude.{◌≡◌, ℕ, ◌+◌, ◌≤◌, ◌⊎◌, List, ◌++◌, slice_get, length, Some, All}
use Rattle.rt_rib.specs.declared.commands.Entry.{Entry}
use Rattle.rt_rib.specs.declared.commands.Cmd.{Cmd}
use Rattle.rt_rib.specs.declared.commands.Reply.TheVariants.{Added}
use Rattle.rt_rib.specs.Sequential.{reply_of, table_of_journal, IsLawfulJournal}
use Rattle.ya_lock.specs.Lock.{LockId}
use Rattle.rt_shared.specs.declared.lent.Lent.{Lent}
use Rattle.rt_shared.specs.JournalVisits.{AllBy, Since}

-- the identity of a table: its lock, the maximum number of routes of a feed, and the number of feeds
pub record SharedId : Type 0 where
  pub lock : LockId
  pub limit : ℕ
  pub feeds : ℕ

-- a pass of a feed: its table, its feed, the journal that it has seen, and the number of entries for which that journal
-- had room
pub record HeldPass : Type 0 where
  pub table : SharedId
  pub feed : ℕ
  pub seen : List Entry
  pub room : ℕ

-- the journal that the pass has seen had no room for the command's entry, or the command inserts a route into the table
-- that this journal leaves
abbrev pub NeedsMemory : ℕ → HeldPass → Cmd → Type 0
NeedsMemory limit pass cmd = (pass.room ≡ 0) ⊎ (reply_of limit (table_of_journal limit pass.seen) pass.feed cmd ≡ Added)

-- one pass for each feed of the table, in order
pub record ArePassesOf (table : SharedId) (passes : List HeldPass) : Type 0 where
  pub count : length passes ≡ table.feeds
  pub tables : All (λ p. p.table ≡ table) passes
  pub feeds : (i : ℕ) (p : HeldPass) → slice_get passes i ≡ Some p → p.feed ≡ i + 1

-- the journal is lawful, each of its entries is of a feed of the table, and no entry that a pass hasn't seen is of the
-- pass's feed
pub record Settles (table : SharedId) (passes : List HeldPass) (journal : List Entry) : Type 0 where
  pub lawful : IsLawfulJournal table.limit journal
  pub of_feeds : All (λ e. (1 ≤ e.feed) × (e.feed ≤ table.feeds)) journal
  pub since : All (λ p. Since p.feed p.seen journal) passes

-- the feed of a place
abbrev pub feed_of : ℕ → ℕ
feed_of place = place + 1

-- the limit and the number of feeds are the same
pub record HasSameBounds (a b : Lent) : Type 0 where
  pub limit : b.book.limit ≡ a.book.limit
  pub feeds : b.feeds ≡ a.feeds

-- feeds other than the place's may have been answered
pub record GrowsByOthers (place : ℕ) (a b : Lent) : Type 0 where
  pub same : HasSameBounds a b
  pub since : Since (feed_of place) a.book.journal b.book.journal

-- only the place's feed may have been answered
pub record GrowsByFeed (place : ℕ) (a b : Lent) : Type 0 where
  pub same : HasSameBounds a b
  pub own : List Entry
  pub added : b.book.journal ≡ a.book.journal ++ own
  pub by_feed : AllBy (feed_of place) own
