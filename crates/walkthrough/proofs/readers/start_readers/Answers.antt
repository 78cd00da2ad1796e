use denote.Param.Send.{sendable}
use Rattle.std.proofs.Crossing.{crosses, send, sync, frees}
use Rattle.fib_readers.proofs.Crossing.{reader_send}
use Rattle.walkthrough.proofs.readers.start_readers.Goals as goal

pub spawn-requires-send-F : goal.spawn-requires-send-F
spawn-requires-send-F g c κs within = search (reader_send, crosses, send, sync, frees, sendable) depth 60
