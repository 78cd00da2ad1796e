use Rattle.rt_shared.proofs.EntriesInPieces.{answered_append, all_answered}
use Rattle.rt_shared.proofs.laws.pieces.Goals as goal

pub returns : goal.returns
returns c = λ feed xs ys os ps same. (answered_append feed xs ys os ps same, all_answered feed xs os)
