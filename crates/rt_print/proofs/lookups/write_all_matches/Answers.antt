use Rattle.std.proofs.Common.{◌≡◌, ◌∷◌, refl, arith, rules}
use Rattle.std.proofs.lemmas.Bool.Decides.{nat_tests}
use Rattle.std.proofs.lemmas.List.{nil_from_length, take_all}
use Rattle.rt_print.specs.Styles.{label_of}
use Rattle.rt_print.specs.inside.Parts.{others_as}
use Rattle.rt_print.proofs.LineParts.{others_parts}
use Rattle.rt_print.proofs.Writing.{appends_next, begins_all, stops_within, writes_after}
use Rattle.rt_print.proofs.lookups.write_all_matches.Goals as goal

pub returns-in_default : goal.returns-in_default
returns-in_default g c =
    rw (nil_from_length c.args.found.now c.in_default.ensures.cases) c.put_none_of_all.ensures

pub returns-in_err-put_best : goal.returns-in_err-put_best
returns-in_err-put_best g c =
    let style = c.args.style.now in
    let cut : c.args.found.now ≡ c.in-Some.best.now ∷ c.in-Some.others.now = search rules in
    rw (cut, ← others_parts style.syntax (label_of style.labels) c.args.addr c.in-Some.best.now c.in-Some.others.now)
    (stops_within _ _ _ _ _ c.from_residual.ensures.0 (rw (c.others_begin.ensures.begin, c.syntax-syntax.ensures, c.labels-labels.ensures) at c.in_err-put_best.ensures.err))

pub returns-in_err-put_other : goal.returns-in_err-put_other
returns-in_err-put_other g c =
    let style = c.args.style.now in
    let all = others_as style.syntax (label_of style.labels) c.args.addr c.in-Some.best.now in
    let cut : c.args.found.now ≡ c.in-Some.best.now ∷ c.in-Some.others.now = search rules in
    let first = rw (c.others_begin.ensures.begin, c.syntax-syntax.ensures, c.labels-labels.ensures) at c.in_ok-put_best.ensures.ok in
    rw (cut, ← others_parts style.syntax (label_of style.labels) c.args.addr c.in-Some.best.now c.in-Some.others.now)
    (writes_after _ _ _ _ _ _ first (stops_within _ _ _ _ _ c.from_residual-in_err-put_other.ensures.0
    (begins_all _ all (λ n. refl) (λ n x xs. refl) c.in-Some.others.now c.loop-route.route-index _ c.loop-route-test.true c.route-item.is _ _ _ c.loop-route.invariant.written
    (rw c.loop-route.invariant.comma at c.in_err-put_other.ensures.err))))

pub loop-route-preserved : goal.loop-route-preserved
loop-route-preserved g c =
    let style = c.args.style.now in
    record {
      comma = grind (arith, nat_tests);
      written = appends_next _ (others_as style.syntax (label_of style.labels) c.args.addr c.in-Some.best.now) (λ n. refl) (λ n x xs. refl) c.in-Some.others.now c.loop-route.route-index _
          c.loop-route-test.true c.route-item.is _ _ _ c.loop-route.invariant.written (rw c.loop-route.invariant.comma at c.in_ok-put_other.ensures.ok);
    }

pub returns : goal.returns
returns g c =
    let style = c.args.style.now in
    let cut : c.args.found.now ≡ c.in-Some.best.now ∷ c.in-Some.others.now = search rules in
    let first = rw (c.others_begin.ensures.begin, c.syntax-syntax.ensures, c.labels-labels.ensures) at c.in_ok-put_best.ensures.ok in
    let others = rw (take_all c.loop-route.route-index c.in-Some.others.now c.loop-route-test.false) at c.loop-route.invariant.written in
    rw (cut, ← others_parts style.syntax (label_of style.labels) c.args.addr c.in-Some.best.now c.in-Some.others.now)
    (writes_after _ _ _ _ _ _ first (writes_after _ _ _ _ _ _ others (rw (c.others_end.ensures, c.syntax-syntax.ensures) at c.put.ensures)))
