use Rattle.std.proofs.Common.{◌≡◌, take}
use Rattle.rt_cidr.specs.declared.address.Addr.{Addr}
use Rattle.rt_rib.specs.Chunks.{answered}
use Rattle.rt_rib.specs.LookUp.{look_up}
use Rattle.rt_rib.specs.Maps.{routes_of}
use Rattle.rt_rib.proofs.lookups.OfferMapChunkLookupAddrOptionRoute.look_up_chunk.Given as goal

-- the first k addresses are answered
abbrev pub invariant-loop-k : goal.invariant-loop-k
invariant-loop-k g l = l.answers ≡ answered (λ (addr : Addr) earlier. look_up addr (routes_of l.self.pairs)) (take l.k l.addresses) l.fn.answers
