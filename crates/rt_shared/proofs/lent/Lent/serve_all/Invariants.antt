use Rattle.std.proofs.Common.{◌+◌, ◌≤◌, take, length, vec_len, vec_capacity}
use Rattle.rt_shared.specs.inside.ServedBatch.{AreServed}
use Rattle.rt_shared.specs.SharedTable.{HasSameBounds}
use Rattle.rt_shared.proofs.lent.Lent.serve_all.Given as goal

abbrev pub invariant-loop-index : goal.invariant-loop-index
invariant-loop-index l = record {
  same : HasSameBounds l.initial.self l.self;
  served : AreServed l.feed (take l.index l.cmds) l.initial.self.book.journal l.initial.out.items l.self.book.journal l.out.items;
  room : vec_len l.out + length l.cmds ≤ vec_capacity l.out + l.index;
}
