use Rattle.std.proofs.Common.{◌≡◌, take}
use Rattle.rt_cidr.specs.declared.address.Addr.{Addr}
use Rattle.rt_rib.specs.Chunks.{answered}
use Rattle.rt_rib.specs.LookUp.{look_up}
use Rattle.rt_tables.specs.inside.Answers.{better_of}
use Rattle.rt_tables.proofs.lookups.ImprovementChunkLookupAddrOptionRoute.look_up_chunk.Given as goal

-- the first k addresses are answered
abbrev pub invariant-loop-k : goal.invariant-loop-k
invariant-loop-k g l =
    l.answers ≡ answered (λ (addr : Addr) earlier. better_of earlier (look_up addr l.self.table.now.routes)) (take l.k l.addresses) l.fn.answers
