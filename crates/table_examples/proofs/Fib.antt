-- Examples that test the definitions of rt_fib, each under a line with the definition's name.
use Rattle.std.proofs.Common.{[], ◌∷◌, refl, arith}
use Rattle.rt_rib.proofs.Sets.{Contains-none}
use Rattle.rt_rib.specs.declared.routes.Route.{Route}
use Rattle.table_examples.proofs.Cidr.{ten_8}
use Rattle.table_examples.proofs.Rib.{ten_1_16, via_192_0_2, route_via}
use Rattle.rt_fib.specs.Laws.{PreservesOtherRoutes}

-- 10.0.0.0/8 by 192.0.2.1
abbrev by_1 : Route
by_1 = route_via ten_8 1 5 (via_192_0_2 1)

-- PreservesOtherRoutes
a_route_of_10_0_0_0_8_is_not_of_10_1_0_0_16 : ¬ PreservesOtherRoutes ten_1_16 [] (by_1 ∷ [])
a_route_of_10_0_0_0_8_is_not_of_10_1_0_0_16 kept = Contains-none by_1 ((kept by_1 refl).1 (0, omega arith, refl))
