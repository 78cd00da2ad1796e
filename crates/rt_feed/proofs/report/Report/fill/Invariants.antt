use Rattle.std.proofs.Common.{◌≡◌, ◌++◌, take, drop}
use Rattle.rt_feed.specs.inside.FeedRuns.{filled}
use Rattle.rt_feed.proofs.report.Report.fill.Given as goal

-- the lines so far were given the outcomes so far, and the remaining lines get the remaining outcomes
abbrev pub invariant-loop-index : goal.invariant-loop-index
invariant-loop-index l =
    take l.index l.lines.items ++ filled (drop l.index l.lines.items) l.rest
    ≡ take l.first l.initial.lines.items ++ filled (drop l.first l.initial.lines.items) l.outcomes
