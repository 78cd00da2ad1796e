use Rattle.std.proofs.Common.{rules, ◌++◌, ap, sym, ◌∙◌}
use Rattle.std.proofs.lemmas.List.{append-nil}
use Rattle.rt_cidr.specs.Prefix.{contains}
use Rattle.rt_trie.specs.Map.{containing}
use Rattle.rt_rib.specs.Maps.{routes_of}
use Rattle.rt_rib.proofs.MapRoutes.{walked}
use Rattle.rt_rib.proofs.Selections.{filter_routes}
use Rattle.rt_rib.proofs.selection.routes_covering.Goals as goal

pub loop-stored-init : goal.loop-stored-init
loop-stored-init g c = rw (← c.map.view_is) (search rules)

pub loop-stored-preserved : goal.loop-stored-preserved
loop-stored-preserved g c =
    walked c.loop-stored.routes.items c.append.new.routes.items (routes_of (containing c.args.map.now.pairs c.args.prefix)) c.loop-stored.stored-iterator
    c.next.new.self c.in-Some.stored c.in-Some.offers.now c.as_slice.result.now
    c.loop-stored.invariant c.in-Some.ensures.steps c.as_slice.ensures.offers c.in_ok-append.ensures

pub returns : goal.returns
returns g c =
    sym (append-nil c.loop-stored.routes.items) ∙ ap (λ n. c.loop-stored.routes.items ++ routes_of n) (sym c.in-None.ensures.steps.0)
    ∙ c.loop-stored.invariant ∙ sym (filter_routes (λ q. contains q c.args.prefix) c.args.map.now.pairs)
