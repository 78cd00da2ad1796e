use Rattle.rt_rib.proofs.Ranking.{look_up_all_finds_matches as law}
use Rattle.rt_rib.proofs.laws.look_up_all_finds_matches.Goals as goal

pub returns : goal.returns
returns c = law
