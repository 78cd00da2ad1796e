use Rattle.std.proofs.Common.{◌≡◌, ℕ, take}
use Rattle.rt_rib.specs.Chunks.{answered}
use Rattle.rt_rib.specs.LookUp.{look_up}
use Rattle.yarib_c.specs.Kinds.{routes_in}
use Rattle.yarib_c.specs.Forms.{answer_as}
use Rattle.yarib_c.specs.Calls.{addr}
use Rattle.yarib_c.proofs.lookups.HeldChunkLookupU32YaribRoute.look_up_chunk.Given as goal

-- the first k addresses are answered
abbrev pub invariant-loop-k : goal.invariant-loop-k
invariant-loop-k l = l.answers ≡ answered (λ (a : ℕ) earlier. answer_as (look_up (addr a) (routes_in l.self))) (take l.k l.addresses) l.fn.answers
