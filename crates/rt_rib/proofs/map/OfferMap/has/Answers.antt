use Rattle.std.proofs.Common.{sym, ap, ◌∙◌}
use Rattle.std.specs.List.{list_any}
use Rattle.rt_rib.specs.Maps.{is_from}
use Rattle.rt_rib.specs.inside.Maps.{offers_in}
use Rattle.rt_rib.proofs.MapRoutes.{has-is}
use Rattle.rt_rib.proofs.map.OfferMap.has.Goals as goal

pub returns-in-None : goal.returns-in-None
returns-in-None g c =
    rw (← c.self.view_is) (sym (has-is c.self.inside.trie.pairs c.self.invariant c.args.feed c.args.prefix
    ∙ ap (λ o. list_any (is_from c.args.feed) (offers_in o)) (sym c.in-None.ensures)))

pub returns-in-Some : goal.returns-in-Some
returns-in-Some g c =
    rw (← c.self.view_is) (c.has.ensures ∙ sym (has-is c.self.inside.trie.pairs c.self.invariant c.args.feed c.args.prefix
    ∙ ap (λ o. list_any (is_from c.args.feed) (offers_in o)) (sym c.in-Some.ensures)))
