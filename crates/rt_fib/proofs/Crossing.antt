-- A forwarding table on the heap may go to another thread, and several may ask it at once.
use denote.Param.Send.{IsSend, IsSync, sendable}
use Rattle.std.proofs.Crossing.{crosses}
use Rattle.std.proofs.option.Option.TheSendSync as option
use Rattle.std.specs.contracts.alloc.Global as Heap
use Rattle.std.specs.contracts.impls.GlobalAllocator.TheImpl.{ghosts}
use Rattle.rt_rib.proofs.routes.Route.TheSendSync as route
use Rattle.rt_fib.specs.contracts.fib.Fib as Fib

pub fib_send : IsSend (Fib.the_row Heap.the_row Heap.the_row ghosts ghosts)
fib_send = search (route.the_field_send, option.the_field_send, crosses, sendable) depth 60

pub fib_sync : IsSync (Fib.the_row Heap.the_row Heap.the_row ghosts ghosts)
fib_sync = search (route.the_field_sync, option.the_field_sync, crosses, sendable) depth 60
