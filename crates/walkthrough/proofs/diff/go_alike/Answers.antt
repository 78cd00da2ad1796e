use Rattle.std.proofs.Common.{◌≡◌, ◌↔◌, ◌∙◌, IsTrue, List, Bool, true, false, Option, None, Some, not, arith, refl, sym, subst}
use Rattle.std.specs.Option.{is_some}
use Rattle.rt_rib.specs.declared.routes.Route.{Route}
use Rattle.rt_diff.specs.declared.comparison.Difference.{Difference}
use Rattle.rt_diff.specs.declared.table_answers.CompareBy.TheVariants as by
use Rattle.rt_diff.specs.Answers.{own_numbers}
use Rattle.rt_diff.specs.Differences.{IsFirstDifference}
use Rattle.walkthrough.specs.Diff.{GoAlike}
use Rattle.walkthrough.proofs.diff.go_alike.Goals as goal

-- all addresses go the same way if and only if there is no first range
none_found : (old new : List Route) (found : Option Difference) (none : Bool)
    → IsFirstDifference by.Hop (own_numbers old) (own_numbers new) (record { 0 = 0 }) found → is_some found ≡ not none → IsTrue none ↔ GoAlike old new
none_found old new None true first is = (λ t addr small. first addr (omega arith) small, λ alike. refl)
none_found old new None false first is = absurd (cc)
none_found old new (Some d) true first is = absurd (cc)
none_found old new (Some d) false first is =
    let at_first = first.difference.each d.first (omega arith, first.difference.some) in (
      λ t. absurd (cc),
      λ alike. absurd
          (first.difference.differ (sym at_first.0 ∙ (alike d.first (omega (arith, first.difference.some, first.difference.fits)) ∙ at_first.1))),
    )

pub returns : goal.returns
returns c =
    none_found c.args.old.now.routes c.args.new.now.routes c.first_difference.result c.is_none.result
    (subst (λ t. IsFirstDifference t.by t.old_table t.new_table (record { 0 = 0 }) c.first_difference.result) c.new.ensures c.first_difference.ensures.first)
    c.is_none.ensures
