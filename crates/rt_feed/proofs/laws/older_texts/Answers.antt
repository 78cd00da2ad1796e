use Rattle.rt_feed.proofs.OneCut.{older_texts}
use Rattle.rt_feed.proofs.laws.older_texts.Goals as goal

pub returns : goal.returns
returns c = older_texts
