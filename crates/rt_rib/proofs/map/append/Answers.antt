use Rattle.std.proofs.Common.{◌≡◌, ℕ, ◌+◌, ◌<◌, List, [], ◌∷◌, ◌++◌, length, get_or, map, take, ap, sym, ◌∙◌, append_assoc}
use Rattle.std.proofs.lemmas.List.{append-nil, map_more, take_all}
use Rattle.rt_rib.specs.Maps.{route_by}
use Rattle.rt_rib.proofs.map.append.Goals as goal

-- one more of the images of a list's elements
made_more : {X Y : Type 0} (f : X → Y) (start : List Y) (xs : List X) (i : ℕ) (d : X) (made more : List Y) (y : Y) → i < length xs
    → made ≡ start ++ map f (take i xs) → y ≡ f (get_or xs i d) → more ≡ made ++ y ∷ [] → more ≡ start ++ map f (take (i + 1) xs)
made_more f start xs i d made more y l before same pushed =
    pushed ∙ ap (λ z. z ++ y ∷ []) before ∙ append_assoc start (map f (take i xs)) (y ∷ [])
    ∙ ap (λ z. start ++ (map f (take i xs) ++ z ∷ [])) same ∙ ap (λ z. start ++ z) (sym (map_more f xs i d l))

pub loop-offer-init : goal.loop-offer-init
loop-offer-init g c = sym (append-nil c.args.routes.now.items)

pub loop-offer-preserved : goal.loop-offer-preserved
loop-offer-preserved g c =
    made_more (route_by c.args.prefix) c.args.routes.now.items c.args.offers.now c.loop-offer.offer-index _ c.loop-offer.routes.items c.push.new.self.items
    c.route_by.result
    c.loop-offer-test.true c.loop-offer.invariant c.route_by.ensures c.in_ok-push.ensures.items

pub returns : goal.returns
returns g c = c.loop-offer.invariant
    ∙ ap (λ l. c.args.routes.now.items ++ map (route_by c.args.prefix) l) (take_all c.loop-offer.offer-index c.args.offers.now c.loop-offer-test.false)
