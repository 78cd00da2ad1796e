use Rattle.std.proofs.Common.{rules, ◌≡◌, List, ◌∷◌, ◌++◌, map, reverse, ap, sym, ◌∙◌, append_assoc}
use Rattle.rt_cidr.specs.declared.prefixes.Prefix.{Prefix}
use Rattle.rt_rib.specs.declared.offers.Offer.{Offer}
use Rattle.rt_rib.specs.declared.routes.Route.{Route}
use Rattle.rt_rib.specs.Maps.{Map, route_by}
use Rattle.rt_rib.specs.inside.Maps.{routes_backward}
use Rattle.rt_rib.proofs.MapMatches.{look_up_all-backward}
use Rattle.rt_rib.proofs.lookups.all_of.Goals as goal

-- one more prefix
gone_down : (done more all : List Route) (ahead rest : Map) (p : Prefix) (offers same : List Offer) → routes_backward ahead ++ done ≡ all
    → ahead ≡ (p, offers) ∷ rest → same ≡ offers → more ≡ map (route_by p) same ++ done → routes_backward rest ++ more ≡ all
gone_down done more all ahead rest p offers same before first is appended =
    ap (λ l. routes_backward rest ++ l) appended ∙ ap (λ o. routes_backward rest ++ (map (route_by p) o ++ done)) is
    ∙ sym (append_assoc (routes_backward rest) (map (route_by p) offers) done) ∙ ap (λ m. routes_backward m ++ done) (sym first) ∙ before

pub loop-prefix-init : goal.loop-prefix-init
loop-prefix-init g c = rw (← c.map.view_is) (search rules)

pub loop-prefix-preserved : goal.loop-prefix-preserved
loop-prefix-preserved g c =
    gone_down (reverse c.loop-prefix.routes.items) (reverse c.append_backward.new.routes.items) _ c.loop-prefix.prefix-iterator c.next.new.self
    c.in-Some.prefix c.in-Some.offers.now c.as_slice.result.now
    c.loop-prefix.invariant c.in-Some.ensures.steps c.as_slice.ensures.offers c.in_ok-append_backward.ensures

pub returns : goal.returns
returns g c =
    c.reverse.ensures.items ∙ ap (λ n. routes_backward n ++ reverse c.loop-prefix.routes.items) (sym c.in-None.ensures.steps.0) ∙ c.loop-prefix.invariant
    ∙ rw (← c.map.view_is) (sym (look_up_all-backward c.args.addr c.map.inside.trie.pairs c.map.invariant))
