use Rattle.std.proofs.Common.{◌-◌, length, map, drop, ap, sym, subst, ◌∙◌, arith}
use Rattle.std.proofs.lemmas.List.{take_all, length-drop}
use Rattle.rt_trie.proofs.PrefixOrder.{lt_before}
use Rattle.rt_rib.specs.Maps.{route_by}
use Rattle.rt_rib.specs.inside.Offers.{IsInsertionIndex}
use Rattle.rt_rib.proofs.FromPlaces.{even-parts, routes-late, routes_dropped}
use Rattle.rt_rib.proofs.places.offers_from.Goals as goal

pub returns-then-lt : goal.returns-then-lt
returns-then-lt c =
    let p = c.args.prefix in
    let from = c.args.from.now in
    sym (routes-late from p c.args.offers.now (sym (lt_before from.prefix p) ∙ sym c.if-lt.ensures))

pub returns : goal.returns
returns c =
    let p = c.args.prefix in
    let from = c.args.from.now in
    let offers = c.args.offers.now in
    let k = c.insertion_index-index.result in
    let even = even-parts from.prefix p (sym (lt_before from.prefix p) ∙ sym c.if-lt.ensures) c.requires.later in
    let at = subst (λ o. IsInsertionIndex o offers k) c.offer_of.ensures c.insertion_index-index.ensures in
    ap (map (route_by p)) (take_all (length offers - k) (drop k offers) (omega (arith, length-drop k offers)))
    ∙ routes_dropped from p offers k (sym even.0) (sym even.1) at
