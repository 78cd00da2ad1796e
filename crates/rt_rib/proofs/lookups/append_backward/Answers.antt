use Rattle.std.proofs.Common.{◌++◌, length, map, reverse, sym, arith}
use Rattle.std.proofs.lemmas.List.{at_drop_all}
use Rattle.rt_rib.specs.Maps.{route_by}
use Rattle.rt_rib.proofs.lookups.append_backward.Goals as goal

pub loop-k-init : goal.loop-k-init
loop-k-init g c =
    let offers = c.args.offers.now in
    sym (at_drop_all (λ rest. map (route_by c.args.prefix) rest ++ reverse c.args.routes.now.items) offers (length offers) (omega arith))
