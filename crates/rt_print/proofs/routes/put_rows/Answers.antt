use Rattle.std.proofs.Common.{refl, flat_map}
use Rattle.rt_print.specs.Styles.{label_of, row_as}
use Rattle.rt_print.specs.inside.Parts.{label_pairs}
use Rattle.rt_print.proofs.LineParts.{row_parts}
use Rattle.rt_print.proofs.Writing.{appends_next, stops_all}
use Rattle.rt_print.proofs.routes.put_rows.Goals as goal

pub returns-in_err-put_route : goal.returns-in_err-put_route
returns-in_err-put_route g c =
    let label = label_of (label_pairs c.args.labels.now) in
    let row = row_as c.args.syntax label in
    stops_all (λ n. row) (λ n. flat_map row) (λ n. refl) (λ n x xs. refl) _ _ _ c.loop-route-test.true c.route-item.is _ _ _ c.loop-route.invariant
    _ c.from_residual.ensures.0 (rw (c.row_end-end.ensures.end, row_parts c.args.syntax label c.route-item.result) at c.in_err-put_route.ensures.err)

pub loop-route-preserved : goal.loop-route-preserved
loop-route-preserved g c =
    let label = label_of (label_pairs c.args.labels.now) in
    let row = row_as c.args.syntax label in
    appends_next (λ n. row) (λ n. flat_map row) (λ n. refl) (λ n x xs. refl) _ _ _ c.loop-route-test.true c.route-item.is _ _ _ c.loop-route.invariant
    (rw (c.row_end-end.ensures.end, row_parts c.args.syntax label c.route-item.result) at c.in_ok-put_route.ensures.ok)
