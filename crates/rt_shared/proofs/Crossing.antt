-- The parts of the shared table that a thread may be given: a reference to it, and the pass of a feed. The lent book
-- crosses with them.
use denote.RattleType.{RattleType}
use denote.Param.Send.{IsSend, IsSync, sendable}
use Rattle.std.proofs.Crossing.{send, frees}
use Rattle.std.proofs.boxed.Box.TheSendSync as box
use Rattle.std.proofs.option.Option.TheSendSync as option
use Rattle.ya_lock.proofs.pass.Pass.TheSendSync as pass
use Rattle.ya_lock.proofs.tree_lock.TreeLock.TheSendSync as lock
use Rattle.rt_rib.proofs.Promised.{book_send}
use Rattle.rt_shared.specs.contracts.lent.Lent as Lent
use Rattle.rt_shared.specs.contracts.shared_rib.FeedPass as FeedPass
use Rattle.rt_shared.specs.contracts.shared_rib.SharedRib as SharedRib

lent_send : IsSend Lent.the_row
lent_send = search (book_send, box.the_send, send, frees, sendable) depth 60

pub pass_send : IsSend FeedPass.the_row
pass_send = search (lent_send, pass.the_send, option.the_field_send, sendable) depth 60

pub rib_sync : (L : RattleType) → IsSync (SharedRib.the_row L)
rib_sync L = search (lent_send, lock.the_sync, sendable) depth 60
