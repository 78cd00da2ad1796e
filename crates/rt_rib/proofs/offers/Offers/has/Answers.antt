use Rattle.std.proofs.Common.{ap, ◌∙◌}
use Rattle.std.specs.Prelude.{is_some}
use Rattle.rt_rib.specs.Maps.{is_from}
use Rattle.rt_rib.proofs.OfferLists.{position-is_some}
use Rattle.rt_rib.proofs.offers.Offers.has.Goals as goal

pub returns : goal.returns
returns g c =
    let index = rw c.as_slice.ensures.offers at c.offer_index.ensures in
    c.is_some.ensures ∙ ap is_some index ∙ position-is_some (is_from c.args.feed) c.args.self.now
