-- What is beside a table follows the command that the table was answered.
use Rattle.std.proofs.Common.{◌≡◌, IfSome, List, Option, Some, None, subst, sym}
use Rattle.rt_rib.specs.declared.routes.Route.{Route}
use Rattle.rt_rib.specs.declared.commands.Cmd.{Cmd}
use Rattle.rt_rib.specs.Table.{IsTable}
use Rattle.rt_fib.specs.Laws.{KeepsOtherRoutes}
use Rattle.yarib_c.specs.inside.AttachedFib.{FibHasRoutes, FibMayFollow}

pub may_follow : (cmd : Cmd) (beside : Option (List Route)) (old new : List Route) → IsTable old → FibHasRoutes beside old → KeepsOtherRoutes cmd old new
    → FibMayFollow cmd beside new
may_follow cmd None old new of_old is keeps = tt
may_follow cmd (Some fib) old new of_old is keeps =
    subst (λ (routes : List Route). IsTable routes × KeepsOtherRoutes cmd routes new) (sym is) (of_old, keeps)

-- the forwarding table that is left, if any, is one of these routes
pub beside_left : (left : Option (List Route)) (routes : List Route) → IfSome left (λ fib. fib ≡ routes) → FibHasRoutes left routes
beside_left None routes is = tt
beside_left (Some fib) routes is = is
