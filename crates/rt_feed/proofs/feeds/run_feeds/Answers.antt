use Rattle.std.proofs.Common.{◌≡◌, false, Option, None, sym, arith}
use Rattle.std.specs.Option.{is_some}
use Rattle.rt_feed.proofs.feeds.run_feeds.Goals as goal

is_none : {A : Type 0} (o : Option A) → is_some o ≡ false → o ≡ None
is_none o is = grind arith

pub returns-then-is_none-clause-memory : goal.returns-then-is_none-clause-memory
returns-then-is_none-clause-memory g c memory =
    (c.loop-feed.feed-index, c.feed-item.result, c.loop-feed-test.true, sym c.feed-item.is, is_none _ (c.if-is_none.ensures {u = tt}))
