-- The entries and outcomes that a batch adds.
use Rattle.std.specs.Prelude.{◌≡◌, ℕ, List, ◌++◌, length}
use Rattle.rt_rib.specs.declared.commands.Cmd.{Cmd}
use Rattle.rt_rib.specs.declared.commands.Entry.{Entry}
use Rattle.rt_shared.specs.declared.outcome.Outcome.{Outcome}
use Rattle.rt_shared.specs.JournalVisits.{answered}

-- the feed's commands had these outcomes, one each, and their entries were appended to the journal
pub record AreServed (feed : ℕ) (cmds : List Cmd) (found : List Entry) (before : List Outcome) (now : List Entry) (after : List Outcome) : Type 0 where
  pub outcomes : List Outcome
  pub appended : after ≡ before ++ outcomes
  pub each : length outcomes ≡ length cmds
  pub added : now ≡ found ++ answered feed cmds outcomes
