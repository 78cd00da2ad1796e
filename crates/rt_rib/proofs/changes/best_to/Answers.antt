use Rattle.std.proofs.Common.{Some, ap, ◌∙◌}
use Rattle.rt_rib.proofs.BestTo.{best_none, best_some}
use Rattle.rt_rib.proofs.changes.best_to.Goals as goal

pub returns-in-None : goal.returns-in-None
returns-in-None g c = rw (← c.map.view_is) (best_none c.map.inside.trie.pairs c.map.invariant c.args.prefix c.in-None.ensures)

pub returns-in-Some : goal.returns-in-Some
returns-in-Some g c =
    rw (← c.map.view_is)
    (ap Some c.route_by.ensures
    ∙ best_some c.map.inside.trie.pairs c.map.invariant c.args.prefix c.in-Some.offers.now c.as_slice.result.now _ c.in-Some.ensures
    c.as_slice.ensures.offers c.as_slice.ensures.lawful.some)
