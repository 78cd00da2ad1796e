use Rattle.rt_rib.proofs.Best.{look_up_finds_best as law}
use Rattle.rt_rib.proofs.laws.look_up_finds_best.Goals as goal

pub returns : goal.returns
returns c = law
