use Rattle.std.proofs.Common.{◌≡◌, ℕ, Option, Some, None, refl, ap, ◌∙◌}
use Rattle.rt_rib.specs.declared.routes.Hop.{Hop}
use Rattle.rt_rib.specs.declared.routes.Route.{Route}
use Rattle.rt_rib.specs.LookUp.{look_up}
use Rattle.rt_fib.specs.Hops.{next_hop}
use Rattle.yarib_c.specs.Forms.{router_as}
use Rattle.yarib_c.specs.Calls.{addr}
use Rattle.yarib_c.specs.inside.Routers.{router_by}
use Rattle.yarib_c.proofs.lookups.router_in.Goals as goal

router_is : (none discard : ℕ) (found : Option Route) → router_by none discard (next_hop found) ≡ router_as none discard found
router_is none discard None = refl
router_is none discard (Some r) = refl

pub returns : goal.returns
returns c =
    c.router_by.ensures ∙ ap (λ (h : Option Hop). router_by c.args.no_route c.args.discard h) c.look_up_hop.ensures
    ∙ router_is c.args.no_route c.args.discard (look_up (addr c.args.address) c.args.fib.now)
