use Rattle.std.proofs.Common.{◌≡◌, ◌∷◌, ◌++◌, map, ap, sym, subst, ◌∙◌}
use Rattle.rt_trie.specs.Map.{IsOrdered}
use Rattle.rt_trie.specs.FromPrefix.{from_prefix}
use Rattle.rt_rib.specs.Maps.{Map, route_by, routes_of}
use Rattle.rt_rib.specs.Places.{from_place}
use Rattle.rt_rib.proofs.FromPlaces.{first_late, from_first, from_none}
use Rattle.rt_rib.proofs.places.RoutesFrom.new.Given.{Over}
use Rattle.rt_rib.proofs.places.RoutesFrom.new.Goals.{In-Some}
use Rattle.rt_rib.proofs.places.RoutesFrom.new.Goals as goal

-- the first pair from the prefix on, and those after it
first : (g : Over) (c : In-Some g)
    → from_prefix c.map.inside.trie.pairs c.args.from.now.prefix ≡ (c.in-Some.prefix, c.in-Some.offers.now) ∷ c.next.new.self
first g c = sym c.walk_from-walk.ensures.pairs ∙ c.in-Some.ensures.steps

pub offers_from-offers-requires-clause-later : goal.offers_from-offers-requires-clause-later
offers_from-offers-requires-clause-later g c =
    let s = first g (goal.at.offers_from-offers-requires-clause-later g c).In-Some in
    first_late c.args.from.now c.map.inside.trie.pairs c.in-Some.prefix c.in-Some.offers.now c.next.new.self s

pub returns-in-None : goal.returns-in-None
returns-in-None g c =
    rw (← c.map.view_is) (ap routes_of c.in-None.ensures.steps.1
    ∙ sym (from_none c.args.from.now c.map.inside.trie.pairs (sym c.walk_from-walk.ensures.pairs ∙ c.in-None.ensures.steps.0)))

pub returns-in-Some : goal.returns-in-Some
returns-in-Some g c =
    let from = c.args.from.now in
    let m = c.map.inside.trie.pairs in
    let p = c.in-Some.prefix in
    let s = first g (goal.at.returns-in-Some g c).In-Some in
    let order = subst (λ (l : Map). IsOrdered l) c.walk_from-walk.ensures.pairs c.walk_from-walk.ensures.ordered in
    rw (← c.map.view_is) (ap (λ l. l ++ routes_of c.next.new.self)
    (c.offers_from-offers.ensures ∙ ap (λ l. from_place from (map (route_by p) l)) c.as_slice.ensures.offers)
    ∙ sym (from_first from m p c.in-Some.offers.now c.next.new.self s order))
