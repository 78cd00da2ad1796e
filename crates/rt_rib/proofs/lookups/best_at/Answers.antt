use Rattle.std.proofs.Common.{Some, ap, sym, subst, ◌∙◌}
use Rattle.rt_trie.specs.Map.{pair_copied, IsLongest}
use Rattle.rt_rib.proofs.MapLookUps.{look_up-first, look_up-none}
use Rattle.rt_rib.proofs.lookups.best_at.Goals as goal

pub returns-in-None : goal.returns-in-None
returns-in-None g c = λ m addr h longest. sym (look_up-none m h addr (subst (λ o. IsLongest m addr (pair_copied o)) c.in-None.is longest))

pub returns-in-Some : goal.returns-in-Some
returns-in-Some g c = λ m addr h longest.
    ap Some c.route_by.ensures
    ∙ sym (look_up-first m h addr c.in-Some.prefix c.in-Some.offers.now c.as_slice.result.now _ c.as_slice.ensures.offers
    c.as_slice.ensures.lawful.some (subst (λ o. IsLongest m addr (pair_copied o)) c.in-Some.is longest))
