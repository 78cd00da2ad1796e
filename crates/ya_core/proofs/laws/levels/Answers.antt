use Rattle.std.proofs.Common.{◌≢◌, refl, IsTrue}
use Rattle.ya_core.specs.declared.word.Word.TheVariants.{C, T, P}
use Rattle.ya_core.specs.ArbitrationTree.{node_of, side_of}
use Rattle.ya_core.specs.Soundness.{Phase, Away, Named, Announced, Waiting, Holding, Releasing, LettingIn, phase_of}
use Rattle.ya_core.proofs.PhaseKinds.{competes}
use Rattle.ya_core.proofs.Phases.{holds_below}
use Rattle.ya_core.proofs.LevelClauses.{one_holds}
use Rattle.ya_core.proofs.Invariant.{alone_at}
use Rattle.ya_core.proofs.laws.levels.Goals as goal

takes_part : (x : Phase) → x ≢ Away → IsTrue (competes x)
takes_part Away apart = absurd (apart refl)
takes_part Named apart = refl
takes_part Announced apart = refl
takes_part (Waiting point) apart = refl
takes_part Holding apart = refl
takes_part Releasing apart = refl
takes_part (LettingIn rival) apart = refl

pub returns-clause-side : goal.returns-clause-side
returns-clause-side c = λ levels level p q s is least most nodes sides hp hq.
    alone_at levels q level s is least most
    (λ more. holds_below levels level (s.processes q) least most (takes_part (phase_of levels level (s.processes q)) hq))
    p nodes sides (takes_part (phase_of levels level (s.processes p)) hp)

pub returns-clause-node : goal.returns-clause-node
returns-clause-node c = λ levels level p q s is least most nodes hp hq.
    one_holds (node_of level) (side_of level) (λ r. phase_of levels level (s.processes r))
    (λ n d. s.words (C level n d)) (λ n. s.words (T level n)) (λ r. s.words (P level r)) (is.sound level least most) p q
    nodes hp hq
