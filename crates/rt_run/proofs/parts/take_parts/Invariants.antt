use Rattle.std.proofs.Common.{◌≡◌, ◌≤◌, vec_len, vec_capacity}
use Rattle.rt_run.proofs.TakenTexts.{AreLeft, AreFirstParts}
use Rattle.rt_run.proofs.parts.take_parts.Given as goal

-- the parts of the first shares were taken, and there is capacity for the others
abbrev pub invariant-loop-share : goal.invariant-loop-share
invariant-loop-share l = record {
  left : AreLeft l.dealt l.share l.initial.input.texts l.input.texts;
  parts : AreFirstParts l.initial.input l.dealt l.parts.items;
  counted : vec_len l.parts ≡ l.share;
  room : l.shares ≤ vec_capacity l.parts;
  limited : l.input.limit ≡ l.initial.input.limit;
}
