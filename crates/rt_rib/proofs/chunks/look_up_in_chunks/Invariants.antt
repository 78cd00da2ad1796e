use Rattle.std.proofs.Common.{◌≡◌, ◌-◌, ◌≤◌, length, take}
use Rattle.rt_rib.specs.Chunks.{answered}
use Rattle.rt_rib.proofs.chunks.look_up_in_chunks.Given as goal

-- the addresses before `start` are answered
abbrev pub invariant-loop-start : goal.invariant-loop-start
invariant-loop-start g l = record {
  done : l.answers ≡ answered (g.L.ChunkLookup.answer l.lookup) (take l.start l.addresses) l.fn.answers;
  within : l.start ≤ length l.addresses;
}

abbrev pub decreases-loop-start : goal.decreases-loop-start
decreases-loop-start g l = length l.addresses - l.start
