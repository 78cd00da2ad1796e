-- The main theorem's terms for the running lock at any moment between two atomic steps.
use Rattle.std.specs.Prelude.{◌≡◌, ℕ, ◌⊎◌, List, [], ◌∷◌, Some}
use Rattle.std.specs.Prelude as std
use mathlib.Core.Option.{some}
use Rattle.atomic_table.specs.Table.{State}
use Rattle.ya_lock.specs.declared.rule.View.{View}
use Rattle.ya_lock.specs.LockState.{IsAway, IsToMake, IsGiven, NoneInside, OneInside}
use Rattle.rt_rib.specs.Book.{HoldsTable}
use Rattle.rt_rib.specs.Sequential.{IsLawfulJournal}
use Rattle.rt_shared.specs.declared.lent.Lent.{Lent}
use Rattle.rt_shared.specs.Headline.{FindsBest}
use Rattle.rt_shared.specs.SharedTable.{feed_of}
use Rattle.rt_shared.specs.JournalVisits.{Since}

-- the words, the slot of the lent book, and the views of all seats
abbrev pub Moment : Type 0
Moment = State (std.Option Lent) (View Lent)

-- the book is in its slot
abbrev pub BookInSlot : Moment → Lent → Type 0
BookInSlot s lent = s.homes ≡ some (Some lent) ∷ []

-- no process is inside. The book's trie is lawful and holds exactly the routes left by its journal; the journal is
-- lawful; each look-up found the best feed's route of the longest matching prefix. The journal that a pass away has
-- seen, or that was given to a pass still to be made, is a prefix of the book's, with no entry of that pass's feed
-- after it
pub record IsAtRest (s : Moment) (lent : Lent) : Type 0 where
  pub nobody : NoneInside s
  pub holds : HoldsTable lent.book
  pub lawful : IsLawfulJournal lent.book.limit lent.book.journal
  pub best : FindsBest lent.book.limit lent.book.journal
  pub since : (seat place : ℕ) (seen : Lent) → IsAway s seat place seen ⊎ IsToMake s seat place seen
      → Since (feed_of place) seen.book.journal lent.book.journal

-- no two processes are inside. A book in its slot is at rest. Once it was given, a book is in its slot whenever the
-- views of all seats show no process inside
pub record MeetsHeadline (s : Moment) : Type 0 where
  pub exclusion : OneInside s
  pub at_rest : (lent : Lent) → BookInSlot s lent → IsAtRest s lent
  pub at_home : IsGiven s → NoneInside s → (lent : Lent) × BookInSlot s lent
