use Rattle.rt_rib.proofs.Sets.{take_out_leaves_others as law}
use Rattle.rt_rib.proofs.laws.take_out_leaves_others.Goals as goal

pub returns : goal.returns
returns c = law
