use Rattle.ya_core.specs.Steps.{opening}
use Rattle.ya_core.proofs.Invariant.{opens, excludes}
use Rattle.ya_core.proofs.Content.{sound_after}
use Rattle.ya_core.proofs.laws.exclusion.Goals as goal

pub returns : goal.returns
returns c =
    λ levels places s some lead p q.
    excludes levels p q s some (sound_after levels places opening s some (opens levels) lead)
