use Rattle.std.proofs.Common.{refl}
use Rattle.std.proofs.lemmas.List.{take_all}
use Rattle.rt_feed.specs.Printed.{report_text}
use Rattle.rt_run.specs.RunText.{reports_text}
use Rattle.rt_print.proofs.Promised.{stops_within, writes_after, appends_next, begins_all}
use Rattle.rt_run.proofs.output.write_run.Goals as goal

pub returns-in_err-write_report : goal.returns-in_err-write_report
returns-in_err-write_report g c =
    stops_within _ _ _ _ _ c.from_residual.ensures.0 (begins_all report_text reports_text (λ n. refl) (λ n x xs. refl) c.args.reports.now
    c.loop-index.index c.index-reports-index.result c.loop-index-test.true c.index-reports-index.is _ _ _ c.loop-index.invariant c.in_err-write_report.ensures.err)

pub loop-index-preserved : goal.loop-index-preserved
loop-index-preserved g c =
    appends_next report_text reports_text (λ n. refl)
    (λ n x xs. refl) c.args.reports.now c.loop-index.index c.index-reports-index.result c.loop-index-test.true c.index-reports-index.is _ _ _
    c.loop-index.invariant c.in_ok-write_report.ensures.ok

pub returns : goal.returns
returns g c =
    writes_after _ _ _ _ _ _ (rw (take_all c.loop-index.index c.args.reports.now c.loop-index-test.false) at c.loop-index.invariant) c.write_table.ensures
