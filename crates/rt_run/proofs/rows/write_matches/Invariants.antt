use Rattle.std.proofs.Common.{take}
use Rattle.std.specs.Io.KnownBytes.{Appends}
use Rattle.rt_run.specs.inside.Outputs.{matches_text}
use Rattle.rt_run.proofs.rows.write_matches.Given as goal

-- the covering routes of the addresses so far were written
abbrev pub invariant-loop-one : goal.invariant-loop-one
invariant-loop-one g l = Appends (g.W.Write.contents l.initial.w) (g.W.Write.contents l.w) (matches_text l.style (take l.one-index l.all))
