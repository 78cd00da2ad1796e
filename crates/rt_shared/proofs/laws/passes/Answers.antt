use Rattle.rt_shared.proofs.Passes.{passes_kept}
use Rattle.rt_shared.proofs.laws.passes.Goals as goal

pub returns : goal.returns
returns c = passes_kept
