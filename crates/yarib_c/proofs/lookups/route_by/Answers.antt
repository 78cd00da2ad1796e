use Rattle.std.proofs.Common.{map, sym, ◌∙◌, ℕ, arith}
use Rattle.std.proofs.lemmas.List.{ext_get_or, get_or-map, length-map}
use Rattle.rt_rib.specs.LookUp.{look_up}
use Rattle.yarib_c.specs.Forms.{router_as}
use Rattle.yarib_c.specs.Calls.{addr}
use Rattle.yarib_c.proofs.lookups.route_by.Goals as goal

pub returns : goal.returns
returns c =
    let i = c.loop-k.invariant in
    let addresses = c.args.addresses.now in
    let router = λ (a : ℕ). router_as c.args.no_route c.args.discard (look_up (addr a) c.args.fib.now) in
    ext_get_or 0 c.loop-k.routers (map router addresses) (i.long ∙ sym (length-map addresses router))
    (λ k l. i.each k (omega (arith, i.long)) ∙ sym (get_or-map router addresses k 0 0 (omega (arith, i.long))))
