use Rattle.std.proofs.Common.{◌++◌, ap, sym, ◌∙◌}
use Rattle.std.proofs.lemmas.List.{append-nil}
use Rattle.rt_rib.specs.Maps.{routes_of}
use Rattle.rt_rib.proofs.MapRoutes.{walked}
use Rattle.rt_rib.proofs.map.append_walk.Goals as goal

pub loop-prefix-init : goal.loop-prefix-init
loop-prefix-init g c = ap (λ m. c.args.routes.now.items ++ routes_of m) c.into_iter-prefix-iterator.ensures.into_iter_gives

pub loop-prefix-preserved : goal.loop-prefix-preserved
loop-prefix-preserved g c =
    walked c.loop-prefix.routes.items c.append.new.routes.items _ c.loop-prefix.prefix-iterator c.next.new.self c.in-Some.prefix
    c.in-Some.offers.now c.as_slice.result.now
    c.loop-prefix.invariant c.in-Some.ensures.steps c.as_slice.ensures.offers c.in_ok-append.ensures

pub returns : goal.returns
returns g c =
    sym (append-nil c.loop-prefix.routes.items) ∙ ap (λ n. c.loop-prefix.routes.items ++ routes_of n) (sym c.in-None.ensures.steps.0) ∙ c.loop-prefix.invariant
