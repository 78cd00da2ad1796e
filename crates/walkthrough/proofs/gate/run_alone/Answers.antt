use Rattle.std.proofs.Common.{[], ap, sym, ◌∙◌}
use Rattle.rt_shared.specs.JournalVisits.{entries}
use Rattle.walkthrough.specs.inside.JournalTold.{told}
use Rattle.walkthrough.proofs.JournalTold.{told_by_1}
use Rattle.walkthrough.proofs.gate.run_alone.Goals as goal

pub returns : goal.returns
returns g c = let ran = c.in_ok-report.ensures.ok in let gate = c.run_feed.new.gate in record {
  outcomes = ran.outcomes;
  becomes = ran.asks.becomes;
  reported = ran.reported;
  pieces = ran.asks.pieces;
  cut = ran.asks.cut;
  journaled = sym (told_by_1 gate.book.journal gate.by_feed_1) ∙ ap (entries 1) (ran.asks.gained [] (ap told c.new.ensures.journal));
}
