use Rattle.std.proofs.Common.{◌≡◌, ℕ, ◌<◌, length}
use Rattle.rt_rib.specs.LookUp.{look_up}
use Rattle.yarib_c.specs.Forms.{router_as}
use Rattle.yarib_c.specs.Calls.{addr}
use Rattle.yarib_c.specs.inside.Places.{number_at}
use Rattle.yarib_c.proofs.lookups.route_by.Given as goal

-- the first of these addresses are answered
abbrev pub invariant-loop-k : goal.invariant-loop-k
invariant-loop-k l = record {
  each : (j : ℕ) → j < l.k → number_at l.routers j ≡ router_as l.no_route l.discard (look_up (addr (number_at l.addresses j)) l.fib);
  long : length l.routers ≡ length l.addresses;
}
