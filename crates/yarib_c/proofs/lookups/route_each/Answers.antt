use Rattle.std.proofs.Common.{ℕ, ◌∙◌}
use Rattle.rt_rib.specs.LookUp.{look_up}
use Rattle.rt_rib.proofs.Promised.{answered-map}
use Rattle.yarib_c.specs.Kinds.{routes_in}
use Rattle.yarib_c.specs.Forms.{router_as}
use Rattle.yarib_c.specs.Calls.{addr}
use Rattle.yarib_c.proofs.lookups.route_each.Goals as goal

pub returns-in-None : goal.returns-in-None
returns-in-None c =
    c.look_up_in_chunks.ensures
    ∙ answered-map (λ (a : ℕ). router_as c.args.no_route c.args.discard (look_up (addr a) (routes_in c.args.held.now))) c.args.addresses.now
    c.args.routers.now c.requires
