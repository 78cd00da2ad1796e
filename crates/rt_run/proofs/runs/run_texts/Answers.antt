use Rattle.std.proofs.Common.{◌≤◌, ◌++◌, List, ℕ, length, map, ap, arith, rules}
use Rattle.std.proofs.lemmas.List.{length-map}
use Rattle.rt_rib.specs.declared.limits.TheConstants.{MAX_FEEDS}
use Rattle.rt_print.specs.Routes.{table_text}
use Rattle.rt_run.specs.RunText.{IsRunText, reports_text}
use Rattle.rt_run.proofs.SeveralFeeds.{run_text}
use Rattle.rt_run.proofs.Outputs.{has_byte, writes_or_fails, run_text-some}
use Rattle.rt_run.proofs.runs.run_texts.Goals as goal

pub write_through-requires-clause-called : goal.write_through-requires-clause-called
write_through-requires-clause-called g c =
    let same = ap length c.as_slice-reports.ensures.value in
    let texts = length-map c.args.texts.now (λ text. text.items) in
    let few : length c.as_slice-reports.result.now ≤ MAX_FEEDS = omega (arith, (c.in_ok-reports.ensures {u = tt}).counted, same, texts, c.requires.few) in
    search rules

pub returns-clause-text : goal.returns-clause-text
returns-clause-text g c =
    let routes = (c.in_ok-routes.ensures {u = tt}).routes in
    let text : List ℕ = reports_text 1 c.as_slice-reports.result.now ++ table_text c.as_slice-routes.result.now in
    let is : IsRunText (map (λ text. text.items) c.args.texts.now) c.args.limit c.args.batch text c.status_of-status.result =
    rw (c.status_of-status.ensures, c.as_slice-reports.ensures.value, c.as_slice-routes.ensures.value, routes) (run_text _ _ _ (c.in_ok-reports.ensures {u = tt})) in
    writes_or_fails (IsRunText (map (λ text. text.items) c.args.texts.now) c.args.limit c.args.batch) text _ _ _ c.write_through.result is
    (c.write_through.ensures.text text (has_byte _ (run_text-some _ _)) (λ old written new called. search rules))
