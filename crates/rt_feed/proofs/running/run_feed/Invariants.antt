use Rattle.std.proofs.Common.{◌≡◌, ◌<◌, length}
use Rattle.rt_feed.specs.inside.FeedRuns.{HasRead}
use Rattle.rt_feed.proofs.running.run_feed.Given as goal

-- the lines so far have been read, fewer than a batch wait, and the gate keeps its name
abbrev pub invariant-loop-line : goal.invariant-loop-line
invariant-loop-line g l = record {
  named : g.G.Gate.name l.gate ≡ g.G.Gate.name l.initial.gate;
  read : HasRead g.G.Gate.holds l.batch l.text l.rest l.number l.initial.gate l.gate l.run;
  few : length l.run.gathered.items < l.batch;
}

abbrev pub decreases-loop-line : goal.decreases-loop-line
decreases-loop-line g l = length l.rest
