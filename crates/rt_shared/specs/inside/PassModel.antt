-- The fields of a pass besides its pass of the lock.
use Rattle.std.specs.Prelude.{◌≡◌, ℕ, ◌≤◌, [], Option, Some, None}
use Rattle.ya_lock.specs.Lock.{IdlePass}
use Rattle.rt_shared.specs.declared.lent.Lent.{Lent}
use Rattle.rt_shared.specs.SharedTable.{SharedId, HeldPass, feed_of}

-- the table whose lock lends the book
abbrev pub shared_id : IdlePass Lent → SharedId
shared_id pass = record { lock = pass.lock; limit = pass.seen.book.limit; feeds = pass.seen.feeds }

-- an identity for a pass without its pass of the lock
abbrev pub no_table : SharedId
no_table = record { lock = record { words = 0; slots = 0; views_name = 0; atom = 0; block = 0; offset = 0; slot_names = [] }; limit = 0; feeds = 0 }

-- the pass in the view of contracts
abbrev pub held_pass : ℕ → Option (IdlePass Lent) → HeldPass
held_pass feed (Some pass) = record { table = shared_id pass; feed = feed; seen = pass.seen.book.journal; room = pass.seen.book.room }
held_pass feed None = record { table = no_table; feed = feed; seen = []; room = 0 }

-- the pass of the lock is present, and its place is the feed's
abbrev pub HoldsLockPass : ℕ → Option (IdlePass Lent) → Type 0
HoldsLockPass feed (Some pass) = (feed ≡ feed_of pass.place) × (feed ≤ pass.seen.feeds)
HoldsLockPass feed None = ⊥

-- the feed's pass for this pass of the lock
abbrev pub of_feed : IdlePass Lent → HeldPass
of_feed pass = record { table = shared_id pass; feed = feed_of pass.place; seen = pass.seen.book.journal; room = pass.seen.book.room }
