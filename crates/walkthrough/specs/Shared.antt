-- A table of two feeds, and the routes after each has executed a batch.
use Rattle.std.specs.Prelude.{◌≡◌, ℕ, List, [], ◌∷◌}
use Rattle.rt_rib.specs.declared.routes.Route.{Route}
use Rattle.rt_rib.specs.declared.commands.Cmd.{Cmd}
use Rattle.rt_rib.specs.declared.commands.Entry.{Entry}
use Rattle.rt_rib.specs.Sequential.{IsLawfulJournal, table_of_journal}
use Rattle.rt_shared.specs.declared.outcome.Outcome.{Outcome}
use Rattle.rt_shared.specs.SharedTable.{SharedId, HeldPass}
use Rattle.rt_shared.specs.JournalVisits.{IsContiguousIn, answered}

-- the passes of feed 1 and feed 2 before they have seen anything, of a table that has no other feed
pub record AreBothUnseen (table : SharedId) (first second : HeldPass) : Type 0 where
  pub two : table.feeds ≡ 2
  pub tables : (first.table ≡ table) × (second.table ≡ table)
  pub feeds : (first.feed ≡ 1) × (second.feed ≡ 2)
  pub unseen : (first.seen ≡ []) × (second.seen ≡ [])

-- a lawful journal leaves these routes; in it each feed's commands are contiguous, and the feed has no others
pub record AreRoutesOfBoth (limit : ℕ) (first second : List Cmd) (routes : List Route) : Type 0 where
  pub journal : List Entry
  pub lawful : IsLawfulJournal limit journal
  pub of_first : List Outcome
  pub first_uncut : IsContiguousIn 1 (answered 1 first of_first ∷ []) journal
  pub of_second : List Outcome
  pub second_uncut : IsContiguousIn 2 (answered 2 second of_second ∷ []) journal
  pub of_journal : routes ≡ table_of_journal limit journal
