-- What a handle holds may go to another thread. A forwarding table may be asked by several at once.
use denote.Param.Send.{IsSend, sendable}
use Rattle.std.proofs.Crossing.{send, frees, crosses}
use Rattle.std.proofs.option.Option.TheSendSync as option
use Rattle.rt_rib.proofs.Promised.{table_send, book_send}
use Rattle.rt_fib.proofs.Promised.{fib_send, fib_sync}
use Rattle.yarib_c.specs.contracts.plain.PlainTable as PlainTable
use Rattle.yarib_c.specs.inside.Owned.{held_row}

plain_send : IsSend PlainTable.the_row
plain_send = search (table_send, fib_send, option.the_field_send, crosses, send, frees, sendable) depth 60

pub held_send : IsSend held_row
held_send = search (plain_send, book_send, fib_send, fib_sync, crosses, send, frees, sendable) depth 60
