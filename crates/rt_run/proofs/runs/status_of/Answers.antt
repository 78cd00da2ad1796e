use Rattle.std.proofs.Common.{◌≡◌, rules}
use borrow.Author.Tests.{tests}
use Rattle.std.specs.List.{list_any}
use Rattle.std.proofs.lemmas.Iterator.{YieldsList-from_slice}
use Rattle.std.proofs.lemmas.Iterator.Search.{any_from_yields_List}
use Rattle.rt_feed.specs.Reports.{has_refusal, has_fault}
use Rattle.rt_run.proofs.runs.status_of.Goals as goal

pub returns : goal.returns
returns c =
    let refused : c.any-refused.result ≡ list_any has_refusal c.args.reports.now =
    any_from_yields_List has_refusal _ _ _ c.any-refused.ensures.ran (YieldsList-from_slice c.args.reports.now cc) (λ x b q k. search (rules, tests)) in
    let faulty : c.any-faulty.result ≡ list_any has_fault c.args.reports.now =
    any_from_yields_List has_fault _ _ _ c.any-faulty.ensures.ran (YieldsList-from_slice c.args.reports.now cc) (λ x b q k. search (rules, tests)) in
    rw (← refused, ← faulty) c.status_where.ensures
