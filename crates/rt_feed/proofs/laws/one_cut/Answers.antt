use Rattle.rt_feed.proofs.OneCut as cuts
use Rattle.rt_feed.proofs.laws.one_cut.Goals as goal

pub returns : goal.returns
returns c = cuts.one_cut
