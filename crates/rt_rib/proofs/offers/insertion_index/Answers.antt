use Rattle.std.specs.Prelude.{get_or}
use Rattle.std.proofs.Common.{arith}
use Rattle.rt_rib.proofs.OfferLists.{outranks-more, outranks-behind}
use Rattle.rt_rib.specs.declared.offers.Offer.{Offer}
use Rattle.rt_rib.specs.declared.routes.Hop.TheVariants.{Via}
use Rattle.rt_rib.proofs.Order.{outranks-by}
use Rattle.rt_rib.proofs.offers.insertion_index.Goals as goal

-- what a read past the end gives, which never happens here
abbrev unread : Offer
unread = record { feed = 0; pref = 0; hop = Via (record { 0 = 0 }) }

pub loop-index-preserved : goal.loop-index-preserved
loop-index-preserved c = record {
  within = omega arith;
  before = outranks-more c.args.offers.now c.args.offer.now unread c.loop-index.index c.loop-index-test.true c.loop-index.invariant.before
      (outranks-by (get_or c.args.offers.now c.loop-index.index unread) c.args.offer.now c.beats.result _ c.beats.ensures c.if-is_some.ensures);
}

pub returns-else-is_some : goal.returns-else-is_some
returns-else-is_some c = record {
  within = c.loop-index.invariant.within;
  before = c.loop-index.invariant.before;
  behind = outranks-behind c.args.offers.now c.args.offer.now unread c.loop-index.index c.requires c.loop-index-test.true
      (outranks-by (get_or c.args.offers.now c.loop-index.index unread) c.args.offer.now c.beats.result _ c.beats.ensures c.if-is_some.ensures);
}
