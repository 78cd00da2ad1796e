use Rattle.std.proofs.Common.{◌+◌, ◌≤◌, take, length, vec_len, vec_capacity}
use Rattle.rt_feed.proofs.Remembered.{HasAnswered}
use Rattle.walkthrough.specs.inside.JournalTold.{told}
use Rattle.walkthrough.proofs.gate.OwnBookGate.apply_batch.Given as goal

abbrev pub invariant-loop-cmd : goal.invariant-loop-cmd
invariant-loop-cmd g l = record {
  answered : HasAnswered (take l.cmd-index l.cmds) (told l.initial.self.book.journal) l.initial.out.items (told l.self.book.journal) l.out.items;
  room : vec_len l.out + length l.cmds ≤ vec_capacity l.out + l.cmd-index;
}
