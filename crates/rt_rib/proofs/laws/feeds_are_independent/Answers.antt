use Rattle.rt_rib.proofs.Feeds.{feeds_are_independent as law}
use Rattle.rt_rib.proofs.laws.feeds_are_independent.Goals as goal

pub returns : goal.returns
returns c = law
