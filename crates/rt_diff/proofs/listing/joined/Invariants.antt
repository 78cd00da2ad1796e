use Rattle.std.proofs.Common.{◌*◌, ◌^◌}
use Rattle.rt_diff.specs.inside.Parts.{AreOfPart}
use Rattle.rt_diff.proofs.listing.joined.Given as goal

-- the lists of the blocks before this one are joined
abbrev pub invariant-loop-block : goal.invariant-loop-block
invariant-loop-block l = AreOfPart l.fn.tables 0 (l.block * 2 ^ 26) l.all.items
