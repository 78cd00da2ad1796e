use Rattle.std.proofs.Common.{◌-◌, refl}
use Rattle.rt_rib.specs.declared.purge.Purging.{Purging}
use Rattle.rt_rib.proofs.Purges.{one_less, offers_missing, offers_gone, offers_last}
use Rattle.rt_rib.proofs.purge.PurgingRetainFilterOffers.keeps.Goals as goal

pub returns-in-Missing : goal.returns-in-Missing
returns-in-Missing g c =
    let s = c.args.self.now in
    let next : Purging = record { feed = s.feed; remaining = s.remaining; offer_bytes = _ } in
    offers_missing s next c.args.offers.now c.take_out-removal.new.self refl refl c.in-Missing.ensures.taken c.in-Missing.ensures.lawful

pub returns-in-Gone : goal.returns-in-Gone
returns-in-Gone g c =
    let s = c.args.self.now in
    let next : Purging = record { feed = s.feed; remaining = s.remaining - 1; offer_bytes = _ } in
    offers_gone s next c.args.offers.now c.take_out-removal.new.self refl (one_less s.remaining c.requires) c.in-Gone.ensures.taken c.in-Gone.ensures.lawful

pub returns-in-Last : goal.returns-in-Last
returns-in-Last g c =
    let s = c.args.self.now in
    let next : Purging = record { feed = s.feed; remaining = s.remaining - 1; offer_bytes = _ } in
    offers_last s next c.args.offers.now c.take_out-removal.new.self refl (one_less s.remaining c.requires) c.in-Last.ensures.taken
