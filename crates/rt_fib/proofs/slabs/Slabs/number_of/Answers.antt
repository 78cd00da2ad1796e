use Rattle.std.proofs.Common.{◌≡◌, ℕ, ◌+◌, ◌≤◌, List, ◌∷◌, length, map, take, drop, Option, sym, refl, ap, ◌∙◌, arith}
use Rattle.std.proofs.lemmas.List.{length-map, map-append, take-map, drop-map}
use Rattle.rt_rib.specs.declared.routes.Route.{Route}
use Rattle.rt_fib.specs.inside.Entries.{hop_code}
use Rattle.rt_fib.specs.inside.Slab.{with_value}
use Rattle.rt_fib.proofs.Placing.{fills_same, fills_twice, routes_fill}
use Rattle.rt_fib.proofs.slabs.Slabs.number_of.Goals as goal

-- the codes stay those of the answers, once one more answer is put with its code
codes_put : (values : List (Option Route)) (n : ℕ) (value : Option Route)
    → with_value (map hop_code values) n (hop_code value) ≡ map hop_code (with_value values n value)
codes_put values n value =
    rw (take-map hop_code n values, drop-map hop_code (n + 1) values) (sym (map-append hop_code (take n values) (value ∷ drop (n + 1) values)))

pub returns-then-reuse_if_same-2-clause-fills : goal.returns-then-reuse_if_same-2-clause-fills
returns-then-reuse_if_same-2-clause-fills g c =
    routes_fill _ _ _ refl refl (fills_twice _ _ _ _ c.reuse_if_same.ensures.fills c.reuse_if_same-2.ensures.fills)
    (c.reuse_if_same-2.ensures.values ∙ c.reuse_if_same.ensures.values)

pub returns-in_err-reserve-clause-fills : goal.returns-in_err-reserve-clause-fills
returns-in_err-reserve-clause-fills g c =
    routes_fill _ _ _ refl c.reserve.ensures.items (fills_twice _ _ _ _ c.reuse_if_same.ensures.fills c.reuse_if_same-2.ensures.fills)
    (c.reuse_if_same-2.ensures.values ∙ c.reuse_if_same.ensures.values)

pub returns-in_err-number-clause-fills : goal.returns-in_err-number-clause-fills
returns-in_err-number-clause-fills g c =
    let reused = fills_twice _ _ _ _ c.reuse_if_same.ensures.fills c.reuse_if_same-2.ensures.fills in
    routes_fill _ _ _ refl c.reserve.ensures.items (fills_twice _ _ _ _ reused c.put.ensures.fills)
    (c.in_err-number.ensures.kept ∙ (c.reuse_if_same-2.ensures.values ∙ c.reuse_if_same.ensures.values))

pub returns-clause-fills : goal.returns-clause-fills
returns-clause-fills g c =
    let reused = fills_twice _ _ _ _ c.reuse_if_same.ensures.fills c.reuse_if_same-2.ensures.fills in
    let values = c.reuse_if_same-2.new.self.places.values in
    record {
      groups = fills_same _ _;
      routes = fills_twice _ _ _ _ reused c.put.ensures.fills;
      codes = λ coded.
          let before : c.reserve.new.self.items ≡ map hop_code values =
          rw (c.reserve.ensures.items, c.reuse_if_same-2.ensures.values, c.reuse_if_same.ensures.values) coded in
          let within : c.in_ok-number.number ≤ length c.reserve.new.self.items =
          omega (arith, c.in_ok-number.ensures.within, ap (λ (l : List ℕ). length l) before, length-map values hop_code) in
          rw (c.put_code.ensures within, before, c.hop_code.ensures, c.in_ok-number.ensures.put) (codes_put values c.in_ok-number.number c.args.answer);
    }
