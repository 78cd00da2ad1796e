use Rattle.std.proofs.Common.{Some, ap, sym, ◌∙◌}
use Rattle.rt_cidr.proofs.Promised.{prefix_by_parts}
use Rattle.rt_rib.proofs.BestTo.{some_is}
use Rattle.rt_rib.proofs.Equality.{decides_route}
use Rattle.rt_rib.proofs.changes.is_same.Goals as goal

pub returns-in-Some-after : goal.returns-in-Some-after
returns-in-Some-after c =
    let old = c.in-Some.old in
    let new = c.in-Some-after.new in
    let decides = decides_route prefix_by_parts old new in (
      (λ is. c.in-Some.is ∙ ap Some (decides.0 (sym c.eq.ensures ∙ is)) ∙ sym c.in-Some-after.is),
      (λ same. c.eq.ensures ∙ decides.1 (some_is old new (sym c.in-Some.is ∙ same ∙ c.in-Some-after.is))),
    )
