use Rattle.rt_rib.proofs.Sets.{put_in_adds as law}
use Rattle.rt_rib.proofs.laws.put_in_adds.Goals as goal

pub returns : goal.returns
returns c = law
