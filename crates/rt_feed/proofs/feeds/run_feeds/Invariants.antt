use Rattle.std.proofs.Common.{ℕ, ◌<◌, get_or, IsSome}
use Rattle.rt_feed.proofs.feeds.run_feeds.Given as goal

-- the feeds so far have reports
abbrev pub invariant-loop-feed : goal.invariant-loop-feed
invariant-loop-feed g l = (k : ℕ) (d : _) → k < l.feed-index → IsSome (get_or l.feed-items k d).report
