use Rattle.std.proofs.Common.{take}
use Rattle.std.specs.List.{flat_map, enumerate_from}
use Rattle.std.specs.Io.KnownBytes.{Appends}
use Rattle.rt_print.specs.ReplayText.{step_text}
use Rattle.rt_print.proofs.replays.write_replay.Given as goal

-- the lines so far were written
abbrev pub invariant-loop-index : goal.invariant-loop-index
invariant-loop-index g l = Appends (g.W.Write.contents l.initial.w) (g.W.Write.contents l.w)
    (flat_map (λ step. step_text step.0 step.1) (enumerate_from 1 (take l.index l.steps)))
