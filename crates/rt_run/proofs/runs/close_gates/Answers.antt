use Rattle.std.proofs.Common.{Some, map, sym, ap, ◌∙◌, [], ◌∷◌}
use Rattle.std.proofs.lemmas.List.{map-append}
use Rattle.rt_shared.specs.SharedTable.{HeldPass}
use Rattle.rt_feed.specs.declared.feeds.Feed.{Feed}
use Rattle.rt_run.proofs.Lists.{map_more}
use Rattle.rt_run.proofs.runs.close_gates.Goals as goal

pub loop-feed-preserved : goal.loop-feed-preserved
loop-feed-preserved g c =
    let now = c.loop-feed in
    let report = c.in-Some-report.report in
    record {
      passes = map_more (λ (f : Feed HeldPass). f.gate) now.passes.items
          _ now.yielded c.in-Some.feed _ now.invariant.passes c.push_reserved.ensures.items c.into_pass.ensures;
      reports =
          map_more (λ (f : Feed HeldPass). f.report) (map Some now.reports.items) _ now.yielded c.in-Some.feed _ now.invariant.reports
          (ap (map Some) c.push_reserved-in-loop-feed.ensures.items ∙ map-append Some now.reports.items (report ∷ [])) (sym c.in-Some-report.is);
      room = rw c.push_reserved.ensures.capacity now.invariant.room;
      report_room = rw c.push_reserved-in-loop-feed.ensures.capacity now.invariant.report_room;
    }
