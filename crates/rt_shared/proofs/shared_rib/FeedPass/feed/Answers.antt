use Rattle.std.proofs.Common.{rules}
use Rattle.rt_shared.proofs.shared_rib.FeedPass.feed.Goals as goal

pub returns : goal.returns
returns c = search rules
