-- The text of the replay of a schedule, and its effect on a writer.
use Rattle.std.specs.Prelude.{◌≡◌, ℕ, List, Option, Result, Ok, Err}
use Rattle.std.specs.Io.KnownBytes.{Appends}
use Rattle.rt_cidr.specs.Output.{AppendsBeginning}
use Rattle.ya_core.specs.declared.step.Step.{Step}
use Rattle.ya_core.specs.Steps.{State, opening}
use Rattle.ya_core.specs.Machines.{ReplaysTo}
use Rattle.ya_core.specs.Worlds.{ReportsInside}
use Rattle.rt_print.specs.ReplayText.{replay_text_of}
use Rattle.rt_run.specs.declared.faults.AppFault.{AppFault}
use Rattle.rt_run.specs.declared.faults.AppFault.TheVariants.{Run, Replay, Write}

-- the text of the run that the picks name: its steps, and the place that is inside in the state after them
pub record IsReplayText (levels : ℕ) (picks text : List ℕ) : Type 0 where
  pub steps : List Step
  pub last : State
  pub taken : ReplaysTo levels opening picks steps last
  pub inside : Option ℕ
  pub told : ReportsInside last inside
  pub printed : text ≡ replay_text_of steps inside

-- the effect of a replay on its writer: it wrote the text of the run that the picks name; nothing if it failed; a
-- beginning of that text if the writer failed
abbrev pub LeavesReplay : ℕ → List ℕ → Option (List ℕ) → Option (List ℕ) → Result ℕ AppFault → Type 0
LeavesReplay levels picks old new (Ok status) =
    (status ≡ 0) × (text : List ℕ) × IsReplayText levels picks text × Appends old new text
LeavesReplay levels picks old new (Err (Run fault)) = ⊥
LeavesReplay levels picks old new (Err (Replay fault)) = new ≡ old
LeavesReplay levels picks old new (Err Write) =
    (text : List ℕ) × IsReplayText levels picks text × AppendsBeginning old new text
