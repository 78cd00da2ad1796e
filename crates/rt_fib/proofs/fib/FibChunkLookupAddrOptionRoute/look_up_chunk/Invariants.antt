use Rattle.std.proofs.Common.{◌≡◌, take}
use Rattle.rt_cidr.specs.declared.address.Addr.{Addr}
use Rattle.rt_rib.specs.Chunks.{answered}
use Rattle.rt_rib.specs.LookUp.{look_up}
use Rattle.rt_fib.proofs.fib.FibChunkLookupAddrOptionRoute.look_up_chunk.Given as goal

-- the answers so far
abbrev pub invariant-answers : goal.invariant-answers
invariant-answers g l = l.answers ≡ answered (λ (addr : Addr) earlier. look_up addr l.self) (take l.k l.addresses) l.fn.answers
