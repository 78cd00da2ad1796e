use Rattle.std.proofs.Common.{inl, inr, arith}
use Rattle.rt_feed.proofs.FilledReports.{is_filled}
use Rattle.rt_feed.proofs.report.Report.fill.Goals as goal

pub invariant_of-self : goal.invariant_of-self
invariant_of-self c =
    (is_filled c.args.first c.loop-index.index c.self.inside.lines.items _ c.args.outcomes.now c.loop-index.rest.now c.loop-index.invariant
    (inl c.in_default.len_below) c.self.invariant).1

pub returns-in_default : goal.returns-in_default
returns-in_default c =
    rw (← c.self.view_is)
    (is_filled c.args.first c.loop-index.index c.self.inside.lines.items _ c.args.outcomes.now c.loop-index.rest.now c.loop-index.invariant
    (inl c.in_default.len_below) c.self.invariant).0

pub invariant_of-self-2 : goal.invariant_of-self-2
invariant_of-self-2 c =
    (is_filled c.args.first c.loop-index.index c.self.inside.lines.items _ c.args.outcomes.now c.loop-index.rest.now c.loop-index.invariant
    (inr (omega (arith, c.loop-index-test.false, c.len-index-end.ensures, c.self.inside.lines.ok.0))) c.self.invariant).1
