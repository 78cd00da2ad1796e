use Rattle.std.proofs.Common.{Some, ap, sym, ◌∙◌}
use Rattle.std.proofs.lemmas.Option.{same_Some}
use Rattle.rt_rib.proofs.Promised.{decides_route}
use Rattle.rt_fib.proofs.routes.OptionRouteSame.is_same.Goals as goal

pub returns-in-Some-Some : goal.returns-in-Some-Some
returns-in-Some-Some c =
    let decides = decides_route c.same_prefix.ensures c.in-Some-Some.one c.in-Some-Some.other in
    rw (c.in-Some-Some.is-0, c.in-Some-Some.is-1)
    ((λ is. ap (λ r. Some r) (decides.0 (sym c.eq.ensures ∙ is))), (λ same. c.eq.ensures ∙ decides.1 (same_Some _ _ same)))
