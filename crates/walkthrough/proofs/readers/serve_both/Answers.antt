use denote.Param.Send.{sendable}
use Rattle.std.proofs.Crossing.{crosses, send, sync, frees}
use Rattle.std.proofs.option.Option.TheSendSync as option
use Rattle.rt_rib.proofs.commands.Cmd.TheSendSync as cmd
use Rattle.rt_shared.proofs.Promised.{pass_send, rib_sync}
use Rattle.walkthrough.proofs.readers.serve_both.Goals as goal

pub join-one-requires-send-F : goal.join-one-requires-send-F
join-one-requires-send-F g c κs within = search (pass_send, rib_sync, cmd.the_field_sync, cmd.the_sync, crosses, send, sync, frees, sendable) depth 100

pub join-one-requires-send-A : goal.join-one-requires-send-A
join-one-requires-send-A g c κs within = search (pass_send, option.the_field_send, option.the_send, crosses, send, sync, frees, sendable) depth 100
