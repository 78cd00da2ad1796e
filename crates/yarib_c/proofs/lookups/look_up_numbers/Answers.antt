use Rattle.std.proofs.Common.{◌≡◌, [], ◌∷◌, ◌++◌, length, map, take, get_or, ap, sym, ◌∙◌, arith, length-set}
use Rattle.std.proofs.lemmas.List.{take_all, take_more_set, map_more}
use Rattle.std.proofs.lemmas.Simd.{map-map}
use Rattle.rt_cidr.specs.declared.address.Addr.{Addr}
use Rattle.rt_rib.specs.LookUp.{look_up}
use Rattle.yarib_c.specs.Kinds.{routes_in}
use Rattle.yarib_c.specs.Calls.{addr}
use Rattle.yarib_c.proofs.lookups.look_up_numbers.Goals as goal

pub loop-k-preserved : goal.loop-k-preserved
loop-k-preserved c =
    let k = c.loop-k.k in
    let addresses = c.args.addresses.now in
    let asked = c.loop-k.asked in
    let here = addr (get_or addresses k 0) in
    let i = c.loop-k.invariant in
    record {
      copied =
          take_more_set asked k here (omega (arith, i.long, c.requires.chunk, c.loop-k-test.true))
          ∙ ap (λ l. l ++ here ∷ []) i.copied ∙ sym (map_more addr addresses k 0 c.loop-k-test.true);
      long = length-set asked k here ∙ i.long;
    }

pub returns : goal.returns
returns c =
    let addresses = c.args.addresses.now in
    let look = λ (a : Addr). look_up a (routes_in c.args.held.now) in
    let count : c.loop-k.k ≡ length addresses = omega (arith, c.loop-k.auto.k-end, c.loop-k-test.false) in
    c.look_up_each.ensures
    ∙ ap (map look) (ap (λ n. take n c.loop-k.asked) (sym count) ∙ c.loop-k.invariant.copied ∙ ap (map addr) (take_all c.loop-k.k addresses c.loop-k-test.false))
    ∙ map-map look addr addresses
