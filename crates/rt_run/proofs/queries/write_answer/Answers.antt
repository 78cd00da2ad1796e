use Rattle.std.proofs.Common.{ℕ, List, rules}
use Rattle.rt_cidr.specs.declared.address.Addr.{Addr}
use Rattle.rt_rib.specs.LookUp.{look_up, look_up_all}
use Rattle.rt_print.specs.Styles.{label_of, found_as, all_found_as}
use Rattle.rt_run.proofs.Asked.{rows_of_best, rows_of_all}
use Rattle.rt_run.proofs.InvalidLines.{rows_text}
use Rattle.rt_run.proofs.Outputs.{has_byte, rows_and_total-some, counts-some}
use Rattle.rt_run.proofs.queries.write_answer.Goals as goal

pub returns-in-Best : goal.returns-in-Best
returns-in-Best g c rows others asks =
    let style = c.args.style.now in
    let read = c.parts.result.now in
    let table = c.args.tables.now in
    let one : Addr → List ℕ = λ addr. found_as style.syntax (label_of style.labels) addr (look_up addr table) in
    let these = rows_of_best c.one_address_text.ensures c.in-Best.addresses rows others read (rw c.in-Best.is at asks) c.parts.ensures in
    rw (c.in-Best.is, ← (rows_text style one _ rows read.addresses.items read.invalid.items these)) c.write_best.ensures

pub returns-in-All : goal.returns-in-All
returns-in-All g c rows others asks =
    let style = c.args.style.now in
    let read = c.parts-in-All.result.now in
    let table = c.args.tables.now in
    let one : Addr → List ℕ = λ addr. all_found_as style.syntax (label_of style.labels) addr (look_up_all addr table) in
    let these = rows_of_all c.one_address_text.ensures c.in-All.addresses rows others read (rw c.in-All.is at asks) c.parts-in-All.ensures in
    rw (c.in-All.is, ← (rows_text style one _ rows read.addresses.items read.invalid.items these)) c.write_all.ensures

pub returns-in_ok-pieces-in-Routes : goal.returns-in_ok-pieces-in-Routes
returns-in_ok-pieces-in-Routes g c rows others asks =
    rw (c.in-Routes.is, ← (c.in_ok-pieces-in-Routes.ensures {u = tt}), ← c.as_slice.ensures.value) c.write_route_pieces.ensures

pub returns-in_ok-routes-in-RoutesAndTotal : goal.returns-in_ok-routes-in-RoutesAndTotal
returns-in_ok-routes-in-RoutesAndTotal g c rows others asks =
    rw (c.in-RoutesAndTotal.is, ← (c.in_ok-routes-in-RoutesAndTotal.ensures {u = tt}))
    (c.write_through.ensures.text _ (has_byte _ (rows_and_total-some c.args.style.now c.in_ok-routes-in-RoutesAndTotal.routes.items))
    (λ old written new called. search rules))

pub returns-in_ok-routes-in-Counts : goal.returns-in_ok-routes-in-Counts
returns-in_ok-routes-in-Counts g c rows others asks =
    rw (c.in-Counts.is, ← (c.in_ok-routes-in-Counts.ensures {u = tt}))
    (c.write_through-in-Counts.ensures.text _ (has_byte _ (counts-some c.args.style.now c.in_ok-routes-in-Counts.routes.items))
    (λ old written new called. search rules))
