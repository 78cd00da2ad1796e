-- A reader may be sent to another thread.
use denote.Param.Send.{IsSend, IsSync, sendable}
use Rattle.std.proofs.Crossing.{send, sync, frees, crosses}
use Rattle.left_right.proofs.reader.Reader.TheSendSync as reader
use Rattle.rt_fib.proofs.Promised.{fib_send, fib_sync}
use Rattle.fib_readers.specs.contracts.readers.Shown as Shown
use Rattle.fib_readers.specs.contracts.readers.FibReader as FibReader

shown_sync : IsSync Shown.the_row
shown_sync = search (fib_send, fib_sync, crosses, frees, sendable) depth 60

pub reader_send : IsSend FibReader.the_row
reader_send = search (shown_sync, reader.the_field_send, crosses, send, sync, frees, sendable) depth 100
