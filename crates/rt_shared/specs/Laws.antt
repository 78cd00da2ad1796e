-- Properties of every journal and of the visits in it.
use Rattle.std.specs.Prelude.{◌≡◌, ℕ, ◌<◌, List, [], ◌∷◌, ◌++◌, length, slice_index_or}
use Rattle.std.specs.List.{flat_map}
use Rattle.rt_rib.specs.declared.commands.Cmd.{Cmd}
use Rattle.rt_rib.specs.declared.commands.Entry.{Entry}
use Rattle.rt_rib.specs.Laws.{feed_entries}
use Rattle.rt_shared.specs.declared.outcome.Outcome.{Outcome}
use Rattle.rt_shared.specs.SharedTable.{SharedId, HeldPass, ArePassesOf}
use Rattle.rt_shared.specs.JournalVisits.{AllBy, Since, answered, CommitsBatch, IsContiguousIn}

-- two changes by others in a row are one such change
abbrev pub SinceAgain : Type 0
SinceAgain = (feed : ℕ) (a b c : List Entry) → Since feed a b → Since feed b c → Since feed a c

-- the entries of two pieces of a feed's commands are the entries of the first and then those of the second; all
-- are the feed's
abbrev pub AnsweredInPieces : Type 0
AnsweredInPieces =
    (feed : ℕ) (xs ys : List Cmd) (os ps : List Outcome) → length os ≡ length xs
    → (answered feed (xs ++ ys) (os ++ ps) ≡ answered feed xs os ++ answered feed ys ps) × AllBy feed (answered feed xs os)

-- in the empty journal a feed has no visit
abbrev pub UncutAtFirst : Type 0
UncutAtFirst = (feed : ℕ) → IsContiguousIn feed [] []

-- a feed's visits stay uncut while it is away
abbrev pub UncutSince : Type 0
UncutSince = (feed : ℕ) (visits : List (List Entry)) (a b : List Entry) → IsContiguousIn feed visits a → Since feed a b → IsContiguousIn feed visits b

-- one more call adds one more visit
abbrev pub UncutByVisit : Type 0
UncutByVisit =
    (limit feed : ℕ) (visits : List (List Entry)) (seen now : List Entry) (cmds : List Cmd) (outcomes : List Outcome) → IsContiguousIn feed visits seen
    → CommitsBatch limit feed seen cmds outcomes now → IsContiguousIn feed (visits ++ answered feed cmds outcomes ∷ []) now

-- the entries of the feed are those of its visits, one visit after another
abbrev pub EntriesOfVisits : Type 0
EntriesOfVisits = (feed : ℕ) (visits : List (List Entry)) (journal : List Entry) → IsContiguousIn feed visits journal
    → feed_entries feed journal ≡ flat_map (λ visit. visit) visits

-- the journal that a feed has seen has all its entries
abbrev pub EntriesSince : Type 0
EntriesSince = (feed : ℕ) (a b : List Entry) → Since feed a b → feed_entries feed b ≡ feed_entries feed a

-- passes that have kept their table and feed are still all passes of their table
abbrev pub PassesKept : Type 0
PassesKept =
    (table : SharedId) (old new : List HeldPass) → ArePassesOf table old → length new ≡ length old
    → ((i : ℕ) (d : HeldPass) → i < length old
    → ((slice_index_or new i d).table ≡ (slice_index_or old i d).table) × ((slice_index_or new i d).feed ≡ (slice_index_or old i d).feed))
    → ArePassesOf table new
