use Rattle.std.proofs.Common.{take, flat_map}
use Rattle.std.specs.Io.KnownBytes.{Appends}
use Rattle.rt_print.specs.Csv.{doubled}
use Rattle.rt_print.proofs.csv.DoubledText.put_to.Given as goal

-- the bytes so far were written
abbrev pub invariant-loop-byte : goal.invariant-loop-byte
invariant-loop-byte g l = Appends (g.W.Write.contents l.fn.w) (g.W.Write.contents l.w) (flat_map doubled (take l.byte-index l.byte-items))
