-- Runs that share the feeds of a run: each executes the texts of some feeds over a table of its own.
use Rattle.std.specs.Prelude.{◌≡◌, ◌↔◌, ℕ, ◌-◌, ◌<◌, ◌≤◌, ◌==◌, Bool, not, List, [], length, get_or}
use Rattle.std.specs.List.{Contains}
use Rattle.rt_rib.specs.declared.routes.Route.{Route}
use Rattle.rt_rib.specs.Table.{IsTable}
use Rattle.rt_tables.specs.Unions.{AreOfDifferentFeeds}
use Rattle.rt_run.specs.declared.tallies.RejectedInput.{RejectedInput}
use Rattle.rt_run.specs.RunText.{RunContents}
use Rattle.rt_run.specs.TableText.{LeavesTable}
use Rattle.rt_run.specs.ChosenFeeds.{texts_kept}

-- the run that has the text with this index; `dealt` has the run of each text, in order
abbrev pub share_with : List ℕ → ℕ → ℕ
share_with dealt k = get_or dealt k 0

-- the feed's text is another run's
abbrev pub is_of_other : List ℕ → ℕ → ℕ → Bool
is_of_other dealt share feed = not (share_with dealt (feed - 1) == share)

-- the input of a run: its texts, and an empty one in the place of each other text
abbrev pub share_of : RunContents → List ℕ → ℕ → RunContents
share_of asked dealt share = record asked { texts = texts_kept (is_of_other dealt share) 1 asked.texts }

-- each text is in one of these runs, and these are their tables and their tallies, in order
pub record AreShares (asked : RunContents) (dealt : List ℕ) (tables : List (List Route)) (tallies : List (List RejectedInput)) : Type 0 where
  pub dealt_to_some : (k : ℕ) → k < length asked.texts → share_with dealt k < length tables
  pub left : (share : ℕ) → share < length tables → LeavesTable (share_of asked dealt share) (get_or tables share []) (get_or tallies share [])

-- the tally of each text is the one that the text's run has for it
pub record AreTalliesOfShares (asked : RunContents) (dealt : List ℕ) (tallies : List (List RejectedInput)) (all : List RejectedInput) : Type 0 where
  pub as_many : length all ≡ length asked.texts
  pub each : (k : ℕ) (none : RejectedInput) → k < length asked.texts → get_or all k none ≡ get_or (get_or tallies (share_with dealt k) []) k none

-- this is the table of all routes of these tables
pub record IsTableOfAll (tables : List (List Route)) (whole : List Route) : Type 0 where
  pub table : IsTable whole
  pub contains : (r : Route) → Contains whole r ↔ ((t : List Route) × Contains tables t × Contains t r)

-- no feed has routes in two tables of runs that share the feeds
abbrev pub SharesAreApart : Type 0
SharesAreApart =
    (asked : RunContents) (dealt : List ℕ) (tables : List (List Route)) (tallies : List (List RejectedInput)) → AreShares asked dealt tables tallies
    → AreOfDifferentFeeds tables

-- some run of all texts leaves the table of all their routes, with the tally that each text has in its own run: also if
-- commands ran out of memory
abbrev pub SharesAreOneRun : Type 0
SharesAreOneRun =
    (asked : RunContents) (dealt : List ℕ) (tables : List (List Route)) (tallies : List (List RejectedInput)) (whole : List Route) (all : List RejectedInput)
    → 1 ≤ asked.batch → AreShares asked dealt tables tallies → IsTableOfAll tables whole → AreTalliesOfShares asked dealt tallies all
    → LeavesTable asked whole all
